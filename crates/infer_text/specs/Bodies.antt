-- What stands for bodies.
use Rattle.std.specs.Prelude.{ℕ, List, Result, Ok, codes}
use Rattle.serde_json.specs.Data.{Data}
use Rattle.infer_text.specs.Words.{RawBinding, RawBody}
use Rattle.infer_text.specs.Reading.{◌>>=◌, ◌>>◌, field, part, keys_in, parts_in, text_in, u32_in, option_in, list_in}
use Rattle.infer_text.specs.Leaves.{module_in, trait_in, expr_id_in, pat_id_in, binding_id_in, annotation_in}
use Rattle.infer_text.specs.Exprs.{expr_in}
use Rattle.infer_text.specs.Pats.{pat_in}

-- [name, "plain"/"mut"/"ref"/"refmut"]
unfoldable pub binding_in : Data → Result RawBinding (List ℕ)
binding_in d = do
  parts_in 2 d
  name ← part text_in 0 d
  mode ← part annotation_in 1 d
  Ok (record { name = name; mode = mode })

unfoldable pub body_in : Data → Result RawBody (List ℕ)
body_in d = do
  keys_in 9 d
  inside ← field module_in (codes "module") d
  traits ← field (list_in trait_in) (codes "traits") d
  self_ ← field (option_in binding_id_in) (codes "self") d
  params ← field (list_in pat_id_in) (codes "params") d
  root ← field expr_id_in (codes "root") d
  exprs ← field (list_in expr_in) (codes "exprs") d
  pats ← field (list_in pat_in) (codes "pats") d
  bindings ← field (list_in binding_in) (codes "bindings") d
  labels ← field u32_in (codes "labels") d
  Ok (record {
    «module» = inside;
    traits = traits;
    self_ = self_;
    params = params;
    root = root;
    exprs = exprs;
    pats = pats;
    bindings = bindings;
    labels = labels;
  })
