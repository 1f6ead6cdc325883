-- What is refused by some tests is refused by more of them.
use Rattle.std.proofs.Common.{inl, inr, ℕ, List, [], ◌∷◌, ◌++◌}
use Rattle.hir_laws.specs.Words.{RawFacts, Law, FactsList, Test, PassesAll, FirstBroken}
use Rattle.hir_laws.specs.Own.{FactsError, Refuses}
use Rattle.hir_laws.specs.declared.facts_error.FactsError.TheVariants as error

broken_after : (raw : RawFacts) (ts us : List Test) (l : Law) (k : FactsList) (i : ℕ) → PassesAll raw ts → FirstBroken raw us l k i → FirstBroken raw (ts ++ us) l k i
broken_after raw [] us l k i all first = first
broken_after raw (t ∷ ts) us l k i all first = inr (all.0, broken_after raw ts us l k i all.1 first)

broken_before : (raw : RawFacts) (ts us : List Test) (l : Law) (k : FactsList) (i : ℕ) → FirstBroken raw ts l k i → FirstBroken raw (ts ++ us) l k i
broken_before raw [] us l k i first = absurd first
broken_before raw (t ∷ ts) us l k i (inl here) = inl here
broken_before raw (t ∷ ts) us l k i (inr later) = inr (later.0, broken_before raw ts us l k i later.1)

-- after tests that pass
pub refused_after : (raw : RawFacts) (ts us : List Test) (e : FactsError) → PassesAll raw ts → Refuses raw us e → Refuses raw (ts ++ us) e
refused_after raw ts us (error.Law l k i) all first = broken_after raw ts us l k i all first
refused_after raw ts us error.OutOfMemory all first = tt

-- before other tests
pub refused_before : (raw : RawFacts) (ts us : List Test) (e : FactsError) → Refuses raw ts e → Refuses raw (ts ++ us) e
refused_before raw ts us (error.Law l k i) first = broken_before raw ts us l k i first
refused_before raw ts us error.OutOfMemory first = tt
