-- What a branch leads to.
use Rattle.std.proofs.Common.{◌≡◌, ◌⊎◌, ℕ, ◌<◌, ◌≤◌, true, List, length, inl, sym, ◌∙◌, ap, subst}
use Rattle.std.proofs.lemmas.List.Elements.{All-weaker}
use Rattle.std.proofs.lemmas.Option.{same_Some}
use Rattle.std.specs.Prelude.{slice_index}
use Rattle.fws_iv.specs.declared.iv.Iv.{Iv}
use Rattle.fws_iv.specs.Ivs.{has}
use Rattle.fws_ipt.specs.declared.config.IptChain.{IptChain}
use Rattle.fws_ipt.specs.declared.config.IptGo.{IptGo}
use Rattle.fws_tree.specs.Plain.{Plain, branch, IsReduced}
use Rattle.fws_tree_seen.specs.declared.seen.Seen.{Seen}
use Rattle.fws_tree_seen.specs.Reached.{Reaches}
use Rattle.fws_tree_seen.specs.Shown.{IsTold}
use Rattle.fws_ipt_put_chains.specs.declared.coming.Coming.{Coming}
use Rattle.fws_ipt_put_chains.specs.declared.verdict.Verdict.{Verdict}
use Rattle.fws_ipt_put_chains.specs.Branches.{Leads, verdict_end}
use Rattle.fws_ipt_put_chains.specs.Comings.{both, IsCovered}
use Rattle.fws_ipt_put_chains.specs.Reached.{Decides}
use Rattle.fws_ipt_put_chains.proofs.Flowing.{all_come}
use Rattle.fws_ipt_put_chains.proofs.Sight.{PointSight}

-- an act for the tree that is left at the entries of a branch leads to the values there
pub led : PointSight → (seen : Seen) (tops : List ℕ) (t u : Plain Verdict) (least before : ℕ) (chains : List IptChain) (coming : Coming) (entries : List Iv) (go : IptGo)
    → IsTold seen tops t → length tops ≡ 12 → IsReduced tops t
    → ((x0 : ℕ) → has entries x0 ≡ true → branch 0 t x0 ≡ u) → IsCovered both coming → Decides tops seen least before chains coming u go
    → Leads tops t seen least before (length chains) chains (record { entries = entries; go = go })
led sight seen tops t u least before chains coming entries go told twelve reduced left covered decides =
    λ further site p is_est hook n path next m x verdict size out within inside sees val.
    let q = m.packet in
    let r = decides.at further site p is_est hook n path next m size (All-weaker (λ c. c < least) (λ c. (c < least) ⊎ (length chains ≤ c)) (λ c h. inl h) path out)
    (all_come coming covered q.proto) (sight.topped seen tops q x within sees) in
    let reached : Reaches seen q (branch 0 t (slice_index x 0)) r.0 = subst (λ v. Reaches seen q v r.0) (sym (left (slice_index x 0) inside)) r.1 in
    let there = sight.told seen tops t q x r.0 reduced twelve told within sees reached in
    r.2 ∙ ap (λ w. verdict_end w m) (same_Some r.0 verdict (sym there ∙ val))
