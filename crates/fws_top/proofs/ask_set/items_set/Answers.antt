use Rattle.std.proofs.Common.{ℕ, Bool, List, ◌≡◌, ◌||◌}
use Rattle.std.specs.List.{list_any}
use Rattle.std.proofs.lemmas.Result.{IfOk-weaker}
use Rattle.fws_iv.specs.declared.iv.Iv.{Iv}
use Rattle.fws_iv.specs.Ivs.{has}
use Rattle.fws_top.specs.Asks.{item_has, items_of, HasValues}
use Rattle.fws_top.proofs.AskSets.{item_joined, last_joined}
use Rattle.fws_top.proofs.ask_set.items_set.Goals as goal

pub loop-item-smaller : goal.loop-item-smaller
loop-item-smaller c = (c.behind_is_shorter.ensures 44 c.loop-item.rest.now c.in-Some.item.now c.in-Some.behind.now c.in-Some.ensures).0

pub loop-item-preserved : goal.loop-item-preserved
loop-item-preserved c = λ x low.
    item_joined (λ item. item_has c.args.site.now c.args.subject item x) c.loop-item.rest.now c.in-Some.item.now c.in-Some.behind.now _ _ _ _
    c.in-Some.ensures (c.in_ok-more.ensures x low) (c.in_ok-values.ensures x) (c.loop-item.invariant x low)

pub returns : goal.returns
returns c =
    let P : List Iv → Type 0 = λ s. (v : ℕ) → has s v ≡ (has c.loop-item.values v || has c.in_ok-last.last v) in
    let any : ℕ → Bool = λ x. list_any (λ item. item_has c.args.site.now c.args.subject item x) (items_of c.args.set.now) in
    IfOk-weaker _ P (HasValues c.args.site.now c.args.subject any) (λ s h x low.
    last_joined (λ item. item_has c.args.site.now c.args.subject item x) c.loop-item.rest.now _ _ _ _
    c.in_default.ensures (c.in_ok-last.ensures x low) (h x) (c.loop-item.invariant x low)) c.union-2.ensures
