-- What is said of a session whose facts are refused.
use Rattle.std.proofs.Common.{◌≡◌, List, Result, Ok, Err, subst}
use Rattle.infer_text.specs.Words.{DefWithBodyId, RawFacts, FirstBroken, tests}
use Rattle.infer_text.specs.declared.fault.ReadError.{ReadError}
use Rattle.infer_text.specs.declared.fault.ReadError.TheVariants as error
use Rattle.infer_text.specs.Own.{Fault, Reads, Session, facts_of}

pub refused : (raw : RawFacts) (defs : List DefWithBodyId) (f : ReadError) (meaning : Result Session Fault) → meaning ≡ Ok (raw, defs)
    → Reads {A = RawFacts} (λ x. x) (Err f) (Ok raw) → Reads facts_of (Err f) meaning
refused raw defs error.OutOfMemory meaning is h = tt
refused raw defs error.Json meaning is h = absurd (cc)
refused raw defs (error.Shape path) meaning is h = absurd (cc)
refused raw defs (error.Unlawful law list index) meaning is h =
    let same : h.broken ≡ raw = cc in
    record { broken = (raw, defs); stands = is; first = subst (λ f. FirstBroken f tests law list index) same h.first }
