-- The text of a session: `{"facts": FACTS, "commands": [["table", KIND, N], ..]}`.
use Rattle.std.specs.Prelude.{ℕ, List, [], Result, Ok, Err, codes, if◌then◌else◌}
use Rattle.std.specs.Str.{bytes_eq}
use Rattle.serde_json.specs.Data.{Data}
use Rattle.serde_json.specs.Find.{as_str}
use Rattle.infer_text.specs.Words.{DefWithBodyId, RawFacts}
use Rattle.hir_types.specs.declared.ids.DefWithBodyId.TheVariants as def
use Rattle.infer_text.specs.declared.session.Kind.{Kind}
use Rattle.infer_text.specs.declared.session.Kind.TheVariants as kind
use Rattle.infer_text.specs.Reading.{◌>>=◌, ◌>>◌, there, field, part, keys_in, tag, is_tag, u32_in, list_in}
use Rattle.infer_text.specs.Facts.{Fault, facts_in, meaning_by}

unfoldable pub kind_in : Data → Result Kind (List ℕ)
kind_in d = do
  s ← there (as_str d)
  if bytes_eq s (codes "fn") then Ok kind.Fn else
      if bytes_eq s (codes "const") then Ok kind.Const else
      if bytes_eq s (codes "static") then Ok kind.Static else
      if bytes_eq s (codes "variant") then Ok kind.Variant else
      Err []

-- the definition of this kind that has this number
abbrev pub definition : Kind → ℕ → DefWithBodyId
definition kind.Fn n = def.FunctionId (record { 0 = n })
definition kind.Const n = def.ConstId (record { 0 = n })
definition kind.Static n = def.StaticId (record { 0 = n })
definition kind.Variant n = def.VariantId (record { 0 = n })

unfoldable pub definition_in : Data → Result DefWithBodyId (List ℕ)
definition_in d = do
  k ← part kind_in 1 d
  n ← part u32_in 2 d
  Ok (definition k n)

-- ["table", KIND, N]: the definition whose table is asked for
unfoldable pub command_in : Data → Result DefWithBodyId (List ℕ)
command_in d = do
  t ← there (tag d)
  if is_tag t (codes "table") 3 then definition_in d else Err []

-- the facts, and the definitions whose tables are asked for, in their order
abbrev pub Session : Type 0
Session = RawFacts × List DefWithBodyId

unfoldable pub session_in : Data → Result Session (List ℕ)
session_in d = do
  keys_in 2 d
  facts ← field facts_in (codes "facts") d
  commands ← field (list_in command_in) (codes "commands") d
  Ok (facts, commands)

-- the session that a text stands for, or its first fault
abbrev pub raw_session : List ℕ → Result Session Fault
raw_session = meaning_by session_in

abbrev pub facts_of : Session → RawFacts
facts_of s = s.0
