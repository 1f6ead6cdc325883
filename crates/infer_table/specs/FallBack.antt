-- Open holes for integer types that are bound to what they fall back to.
use Rattle.std.specs.Prelude.{◌≡◌, ◌<◌, ◌++◌, ℕ, List, [], ◌∷◌, None}
use Rattle.hir_types.specs.declared.head.Hole.TheVariants as hole_of
use Rattle.hir_types.specs.declared.ty.IntTy.TheVariants as int
use Rattle.hir_types.specs.declared.ty.Ty.TheVariants as ty
use Rattle.infer_table.specs.declared.binding.Binding.{Binding}
use Rattle.infer_table.specs.declared.binding.Binding.TheVariants as binding
use Rattle.infer_table.specs.Bindings.{Substitution, found_binding}
use Rattle.infer_table.specs.Completion.{completion}
use Rattle.infer_table.specs.Solutions.{IsOf}
use Rattle.infer_table.specs.Table.{State, Grew}

-- a hole for integer types is bound to `i32`
abbrev pub IsFall : Binding → Type 0
IsFall (binding.Int n t) = t ≡ ty.Int int.I32
IsFall (binding.Ty n t) = ⊥
IsFall (binding.Const n c) = ⊥

abbrev pub AreFalls : List Binding → Type 0
AreFalls [] = Unit {0}
AreFalls (b ∷ bs) = IsFall b × AreFalls bs

-- some were bound so, and nothing else was done
pub record OnlyFalls (before after : Substitution) : Type 0 where
  pub kinds : after.kinds ≡ before.kinds
  pub falls : List Binding
  pub log : after.log ≡ before.log ++ falls
  pub are : AreFalls falls

-- the hole of this number is open, and for integer types
pub record IsOpenInt (s : Substitution) (n : ℕ) : Type 0 where
  pub made : IsOf s.kinds (hole_of.Int n)
  pub is_open : found_binding s.log (hole_of.Int n) ≡ None

-- none of the first `n` is
abbrev pub NoneOpenBelow : ℕ → Substitution → Type 0
NoneOpenBelow n s = (k : ℕ) → k < n → IsOpenInt s k → ⊥

-- no open hole for integer types is left, and all holes are completed to what they were
pub record FellBack (before after : State) : Type 0 where
  pub only : OnlyFalls before.substitution after.substitution
  pub none_open : (k : ℕ) → IsOpenInt after.substitution k → ⊥
  pub grew : Grew before after
  pub pairs : after.pairs ≡ before.pairs
  pub diverging : after.diverging ≡ before.diverging
  pub completion : completion after ≡ completion before
