use Rattle.std.proofs.Common.{◌≡◌, ℕ, ◌+◌, ◌-◌, ◌≤◌, true, List, length, length-drop, sym, subst, arith}
use Rattle.std.proofs.lemmas.List.{take_rest}
use Rattle.std.specs.Prelude.{take, drop}
use Rattle.fws_iv.specs.declared.iv.Iv.{Iv}
use Rattle.fws_iv.specs.Ivs.{has, IsRegular}
use Rattle.fws_ipt_print.specs.Printable.{all_places}
use Rattle.fws_ipt_put_chains.proofs.Intervals.{lists_more, lists_short, part_fits, regular_part}
use Rattle.fws_ipt_put_chains.proofs.port_lists.port_lists.Goals as goal

pub of_parts-requires : goal.of_parts-requires
of_parts-requires c =
    let parts = c.parts-parts.result.now in
    regular_part c.loop-from.from _ parts (subst IsRegular (sym c.parts-parts.ensures.value) c.parts-parts.ensures.regular)

pub loop-from-preserved : goal.loop-from-preserved
loop-from-preserved c =
    let parts = c.parts-parts.result.now in
    let from : ℕ = c.loop-from.from in
    let n : ℕ = c.fitting.result in
    let same : from + n - from ≡ n = omega arith in
    let below : (v : ℕ) → has parts v ≡ true → v ≤ 65535 = subst (λ l. (v : ℕ) → has l v ≡ true → v ≤ 65535) (sym c.parts-parts.ensures.value) c.requires in
    let regular : IsRegular parts = subst IsRegular (sym c.parts-parts.ensures.value) c.parts-parts.ensures.regular in
    let rest = take_rest parts from in
    let within : n ≤ length (drop from parts) = subst (λ (l : List Iv). n ≤ length l) rest c.fitting.ensures.within in
    let few : all_places (take n (drop from parts)) ≤ 15 = subst (λ (l : List Iv). all_places (take n l) ≤ 15) rest c.fitting.ensures.fits in
    let fits = part_fits c.in_ok-of_parts.field-0 from n (from + n - from) parts regular below c.fitting.ensures.some within few c.in_ok-of_parts.ensures same in
    record {
      within = (let left = length-drop from parts in omega (arith, within, left));
      same = λ x. lists_more c.loop-from.lists.items c.push.new.self.items c.in_ok-of_parts.field-0 from n (from + n - from) parts x c.in_ok-push.ensures.items (c.loop-from.invariant.same x) c.in_ok-of_parts.ensures same;
      short = lists_short c.loop-from.lists.items c.push.new.self.items c.in_ok-of_parts.field-0 c.in_ok-push.ensures.items c.loop-from.invariant.short fits;
    }
