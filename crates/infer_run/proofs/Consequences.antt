-- What follows from the outcome of a run.
use Rattle.std.specs.Prelude.{◌≡◌, ◌<◌, ◌≤◌, ◌+◌, ◌-◌, ◌^◌, ◌∷◌, [], ◌++◌, ℕ, List, length, Option, Some, None, codes, refl}
use Rattle.std.proofs.Common.{arith, sym, ap, ◌∙◌, subst}
use Rattle.std.proofs.lemmas.List.{append-nil, length-append}
use Rattle.std.proofs.lemmas.Fmt.{decimal_injective}
use Rattle.std.specs.Fmt.{decimal}
use Rattle.std.specs.Io.KnownBytes.{Consumes, IsAtEnd}
use Rattle.hir_types.specs.declared.ids.DefWithBodyId.{DefWithBodyId}
use Rattle.infer_run.specs.Causes.{Rose}
use Rattle.infer_run.specs.Command.{IsCommand, kind_word, definition_number}
use Rattle.infer_run.specs.Exactly.{AreSure}
use Rattle.infer_run.specs.Outcome.{limit, Ends, TookAll, Outcome}
use Rattle.infer_run.specs.Request.{IsAsked}
use Rattle.infer_run.specs.declared.running.Ran.{Ran}
use Rattle.infer_run.specs.declared.words.Request.{Request}
use Rattle.hir_types.specs.declared.ids.DefWithBodyId.TheVariants as def
use Rattle.infer_run.specs.declared.words.Request.TheVariants as request

-- ---- ends without faults

-- ends whose counts are always 0
pub always_zero : (e : Ends) → e.reads ≡ 0 → e.reads_new ≡ 0 → e.writes ≡ 0 → e.writes_new ≡ 0 → AreSure e
always_zero e a b c d = record { reads = b ∙ sym a; reads_few = omega arith; writes = d ∙ sym c; writes_few = omega arith }

stays : (before now : ℕ) → now ≡ before → before < 2 ^ 64 - 1 → Rose before now → ⊥
stays before now same few rose = omega arith

-- no fault is answered over ends that have none
pub no_source_fault : (words : List (List ℕ)) (e : Ends) (ran : Ran) → Outcome words e ran → AreSure e → ran.status ≡ 3 → ⊥
no_source_fault words e ran o sure is = stays e.reads e.reads_new sure.reads sure.reads_few (o.source is).rose

pub no_sink_fault : (words : List (List ℕ)) (e : Ends) (ran : Ran) → Outcome words e ran → AreSure e → ran.status ≡ 4 → ⊥
no_sink_fault words e ran o sure is = stays e.writes e.writes_new sure.writes sure.writes_few (o.sink is).rose

-- ---- words name one definition

by_number : (m n : ℕ) → m < 2 ^ 32 → n < 2 ^ 32 → decimal m ≡ decimal n → m ≡ n
by_number m n p q is = decimal_injective m n (omega arith) (omega arith) is

by_kind : (a b : DefWithBodyId) → kind_word a ≡ kind_word b → definition_number a ≡ definition_number b → a ≡ b
by_kind (def.FunctionId f) (def.FunctionId g) k n = ap (λ (m : ℕ). def.FunctionId (record { 0 = m })) n
by_kind (def.FunctionId f) (def.ConstId g) k n = absurd (cc)
by_kind (def.FunctionId f) (def.StaticId g) k n = absurd (cc)
by_kind (def.FunctionId f) (def.VariantId g) k n = absurd (cc)
by_kind (def.ConstId f) (def.FunctionId g) k n = absurd (cc)
by_kind (def.ConstId f) (def.ConstId g) k n = ap (λ (m : ℕ). def.ConstId (record { 0 = m })) n
by_kind (def.ConstId f) (def.StaticId g) k n = absurd (cc)
by_kind (def.ConstId f) (def.VariantId g) k n = absurd (cc)
by_kind (def.StaticId f) (def.FunctionId g) k n = absurd (cc)
by_kind (def.StaticId f) (def.ConstId g) k n = absurd (cc)
by_kind (def.StaticId f) (def.StaticId g) k n = ap (λ (m : ℕ). def.StaticId (record { 0 = m })) n
by_kind (def.StaticId f) (def.VariantId g) k n = absurd (cc)
by_kind (def.VariantId f) (def.FunctionId g) k n = absurd (cc)
by_kind (def.VariantId f) (def.ConstId g) k n = absurd (cc)
by_kind (def.VariantId f) (def.StaticId g) k n = absurd (cc)
by_kind (def.VariantId f) (def.VariantId g) k n = ap (λ (m : ℕ). def.VariantId (record { 0 = m })) n

kinds_agree : (x k m y l n : List ℕ) → x ∷ k ∷ m ∷ [] ≡ y ∷ l ∷ n ∷ [] → k ≡ l
kinds_agree x k m y l n h = cc

numbers_agree : (x k m y l n : List ℕ) → x ∷ k ∷ m ∷ [] ≡ y ∷ l ∷ n ∷ [] → m ≡ n
numbers_agree x k m y l n h = cc

pub same_definition : (words : List (List ℕ)) (a b : DefWithBodyId) → IsCommand words a → IsCommand words b → a ≡ b
same_definition words a b p q =
    let both : codes "table" ∷ kind_word a ∷ decimal (definition_number a) ∷ [] ≡ codes "table" ∷ kind_word b ∷ decimal (definition_number b) ∷ [] = sym p.words_are ∙ q.words_are in
    by_kind a b (kinds_agree _ _ _ _ _ _ both) (by_number (definition_number a) (definition_number b) p.fits q.fits (numbers_agree _ _ _ _ _ _ both))

not_both : (words : List (List ℕ)) (d : DefWithBodyId) → IsCommand words d → words ≡ codes "session" ∷ [] → ⊥
not_both words d p is =
    let both : codes "table" ∷ kind_word d ∷ decimal (definition_number d) ∷ [] ≡ codes "session" ∷ [] = sym p.words_are ∙ is in cc

pub same_request : (words : List (List ℕ)) (r q : Request) → IsAsked words r → IsAsked words q → r ≡ q
same_request words (request.Table a) (request.Table b) p q = ap (λ d. request.Table d) (same_definition words a b p q)
same_request words (request.Table a) request.Session p q = absurd (not_both words a p q)
same_request words request.Session (request.Table b) p q = absurd (not_both words b q p)
same_request words request.Session request.Session p q = refl

-- ---- all bytes of a source that tells them

all_of : (left_new : Option (List ℕ)) (text bytes : List ℕ) → Consumes (Some text) left_new bytes → IsAtEnd left_new → text ≡ bytes
all_of None text bytes consumed ended = absurd consumed
all_of (Some rest) text bytes consumed ended = consumed ∙ (ap (λ (w : List ℕ). bytes ++ w) ended ∙ append-nil bytes)

some_of : (left_new : Option (List ℕ)) (text bytes : List ℕ) → Consumes (Some text) left_new bytes → length bytes ≤ length text
some_of None text bytes consumed = absurd consumed
some_of (Some rest) text bytes consumed = let e : length text ≡ length bytes + length rest = ap length consumed ∙ length-append bytes rest in omega arith

pub took_text : (e : Ends) (text bytes : List ℕ) → e.left ≡ Some text → TookAll e bytes → text ≡ bytes
took_text e text bytes tells took = all_of e.left_new text bytes (subst (λ o. Consumes o e.left_new bytes) tells took.took.consumed) took.ended

pub not_too_long : (words : List (List ℕ)) (e : Ends) (ran : Ran) (text : List ℕ) → Outcome words e ran → e.left ≡ Some text → length text ≤ limit → ran.status ≡ 10 → ⊥
not_too_long words e ran text o tells short is =
    let l = o.long is in
    let fits : length l.bytes ≤ length text = some_of e.left_new text l.bytes (subst (λ o. Consumes o e.left_new l.bytes) tells l.consumed) in
    let long = l.long in
    omega arith
