use Rattle.std.proofs.Common.{◌≡◌, ℕ, ◌+◌, ◌-◌, ◌≤◌, true, length, sym, subst, arith}
use Rattle.fws_iv.specs.Ivs.{has, IsRegular}
use Rattle.fws_ipfw_put_rules.proofs.Grouping.{lesser, lists_each, lists_more, part_fits, regular_part}
use Rattle.fws_ipfw_put_rules.proofs.groups.port_groups.Goals as goal

pub of_parts-requires : goal.of_parts-requires
of_parts-requires c =
    let parts = c.parts-parts.result.now in
    regular_part c.loop-from.from _ parts (subst IsRegular (sym c.parts-parts.ensures.value) c.parts-parts.ensures.regular)

pub loop-from-preserved : goal.loop-from-preserved
loop-from-preserved c =
    let parts = c.parts-parts.result.now in
    let from : ℕ = c.loop-from.from in
    let n : ℕ = c.min.result in
    let few = lesser 30 (length parts - from) n c.min.ensures (omega arith) (omega arith) in
    let a = few.0 in
    let b = few.1 in
    let d = few.2 in
    let same : from + n - from ≡ n = omega arith in
    let inside : from + n ≤ length parts = omega (arith, d) in
    let below : (v : ℕ) → has parts v ≡ true → v ≤ 65535 = subst (λ l. (v : ℕ) → has l v ≡ true → v ≤ 65535) (sym c.parts-parts.ensures.value) c.requires in
    let regular : IsRegular parts = subst IsRegular (sym c.parts-parts.ensures.value) c.parts-parts.ensures.regular in
    let fits = part_fits c.in_ok-of_parts.field-0 from n (from + n - from) parts regular below a b inside c.in_ok-of_parts.ensures same in
    record {
      within = inside;
      same = λ x. lists_more c.loop-from.groups.items c.push.new.self.items c.in_ok-of_parts.field-0 from n (from + n - from) parts x c.in_ok-push.ensures.items (c.loop-from.invariant.same x) c.in_ok-of_parts.ensures same;
      each = lists_each c.loop-from.groups.items c.push.new.self.items c.in_ok-of_parts.field-0 c.in_ok-push.ensures.items c.loop-from.invariant.each fits;
    }
