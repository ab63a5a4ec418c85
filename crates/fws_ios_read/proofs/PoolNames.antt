-- The names of the pools so far.
use Rattle.std.proofs.Common.{◌≡◌, ℕ, false, List, [], ◌∷◌, ◌++◌, cond, ap, ◌∙◌}
use Rattle.std.specs.List.{list_any}
use Rattle.std.specs.Str.{bytes_eq}
use Rattle.indexmap.specs.IndexSet.{insert_key}
use Rattle.fws_ios.specs.declared.draft.IosDraft.{IosDraft}
use Rattle.fws_ios.specs.FileText.{has_pool, with_pool}

-- a name that none has goes behind the others
pub pool_put : (seen d : IosDraft) (name : List ℕ) (names : List (List ℕ)) → seen ≡ d → has_pool d.pools name ≡ false →
    names ≡ insert_key bytes_eq seen.pools name → record seen { pools = names } ≡ with_pool name d
pool_put seen d name names view absent put =
    let new : list_any (bytes_eq name) seen.pools ≡ false = ap (λ (e : IosDraft). has_pool e.pools name) view ∙ absent in
    ap (λ ns. record seen { pools = ns }) (put ∙ ap (λ b. cond b seen.pools (seen.pools ++ name ∷ [])) new) ∙ ap (with_pool name) view
