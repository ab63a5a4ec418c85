use Rattle.std.proofs.Common.{◌≡◌, ◌++◌, map, reverse, vec_len}
use Rattle.fws_unfold.specs.declared.draft.Draft.{Draft}
use Rattle.fws_unfold.specs.Blocks.{placed}
use Rattle.fws_unfold.proofs.placing.place_all.Given as goal

abbrev pub invariant-loop-draft : goal.invariant-loop-draft
invariant-loop-draft l = record {
  code : l.code.items ++ map (placed l.past) (reverse l.drafts.items) ≡ l.fn.code.items ++ map (placed l.past) (reverse l.fn.drafts.items);
  rules : l.rules.items ++ map (λ (draft : Draft). draft.rule) (reverse l.drafts.items) ≡ l.fn.rules.items ++ map (λ (draft : Draft). draft.rule) (reverse l.fn.drafts.items);
}

abbrev pub decreases-loop-draft : goal.decreases-loop-draft
decreases-loop-draft l = vec_len l.drafts
