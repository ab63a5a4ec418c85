use Rattle.std.proofs.Common.{◌≡◌, ℕ, ◌-◌, ◌^◌, ◌≤◌, true, ◌∙◌, sym, arith}
use Rattle.std.proofs.lemmas.Bool.{or_right}
use Rattle.std.specs.List.{list_any}
use Rattle.fws_iv.specs.Ivs.{has}
use Rattle.fws_ipfw_put_rules.proofs.Grouping.{moved}
use Rattle.fws_ipfw_put_rules.proofs.groups.address_groups.Goals as goal

pub loop-k-preserved : goal.loop-k-preserved
loop-k-preserved c =
    let set = c.args.set.now in
    let rest = c.loop-k.rest in
    let head = c.in_ok-head.head in
    let old = c.loop-k.groups.items in
    let inv = c.loop-k.invariant in
    let added = c.in_ok-put_group.ensures in
    let below : (v : ℕ) → has head v ≡ true → v ≤ 2 ^ 32 - 1 = λ v e.
    let lt = c.requires v (sym (inv.same v) ∙ or_right (list_any (λ s. has s v) old) (has rest v) (c.in_ok-head.ensures v e)) in omega (arith, lt) in
    record {
      same = λ x. moved (list_any (λ s. has s x) old) (list_any (λ s. has s x) c.put_group.new.groups.items) (has head x) (has rest x) (has c.in_ok-rest-2.rest x) (has set x)
          (inv.same x) (c.in_ok-head.ensures x) (added.same x) (c.in_ok-rest-2.ensures x);
      each = added.ranges (2 ^ 32 - 1) below inv.each;
    }

pub returns : goal.returns
returns c =
    let rest = c.loop-k.rest in
    let old = c.loop-k.groups.items in
    let inv = c.loop-k.invariant in
    let added = c.in_ok-put_group-2.ensures in
    let below : (v : ℕ) → has rest v ≡ true → v ≤ 2 ^ 32 - 1 = λ v e.
    let lt = c.requires v (sym (inv.same v) ∙ or_right (list_any (λ s. has s v) old) (has rest v) e) in omega (arith, lt) in
    record {
      same = λ x. added.same x ∙ inv.same x;
      each = added.ranges (2 ^ 32 - 1) below inv.each;
    }
