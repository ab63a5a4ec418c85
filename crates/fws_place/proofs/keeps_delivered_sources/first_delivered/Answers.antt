use Rattle.std.proofs.Common.{◌≡◌, ◌≤◌, List, length, get_or, arith, sym, ◌∙◌, ap, subst, All}
use Rattle.std.proofs.lemmas.List.{take_all}
use Rattle.std.proofs.lemmas.List.Elements.{All-more}
use Rattle.fws_net.specs.declared.outcome.Outcome.{Outcome}
use Rattle.fws_tree.specs.declared.row.Row.{Row}
use Rattle.std.specs.Prelude.{slice_set, ℕ}
use Rattle.fws_place.specs.Delivered.{NoneDelivered}
use Rattle.fws_place.proofs.keeps_delivered_sources.first_delivered.Goals as goal

pub delivered-requires : goal.delivered-requires
delivered-requires c =
    let many : length (get_or c.args.rows.now c.loop-row.row-index c.row-item.result).sides ≡ 12 = c.requires c.loop-row.row-index c.row-item.result c.loop-row-test.true in
    ap (λ (row : Row Outcome). length row.sides) c.row-item.is ∙ many

pub loop-row-preserved : goal.loop-row-preserved
loop-row-preserved c =
    let None_in : Row Outcome → Type 0 = NoneDelivered c.args.local.now c.args.top in
    let here : None_in (get_or c.args.rows.now c.loop-row.row-index c.row-item.result) = subst None_in c.row-item.is c.in_default.ensures in
    All-more None_in c.args.rows.now c.loop-row.row-index c.row-item.result c.loop-row-test.true c.loop-row.invariant here

pub returns-in-Some : goal.returns-in-Some
returns-in-Some c =
    let is = c.in-Some.ensures in
    record {
      row = c.row-item.result;
      there = (c.loop-row.row-index, c.loop-row-test.true, sym c.row-item.is);
      entry = c.in-Some.entry;
      dst = c.in-Some.dst;
      entry_low = is.1;
      dst_low = is.2;
      delivered = is.0;
      point = ap (λ (l : List ℕ). slice_set (slice_set l 0 c.in-Some.entry) 2 c.in-Some.dst) c.leasts-point.ensures;
    }

pub returns : goal.returns
returns c =
    let le : length c.args.rows.now ≤ c.loop-row.row-index = omega arith in
    subst (λ l. All (NoneDelivered c.args.local.now c.args.top) l) (take_all c.loop-row.row-index c.args.rows.now le) c.loop-row.invariant
