use Rattle.std.proofs.Common.{◌≤◌, Bool, length, arith, subst}
use Rattle.fws_place.specs.RowRedirects.{IsOfRow, IsPassed}
use Rattle.fws_place.proofs.RedirectRows.{rows_end, rows_many, rows_next, rows_skip}
use Rattle.fws_place.proofs.few_redirects.gathered.Goals as goal

pub loop-at-preserved-then-brings_none : goal.loop-at-preserved-then-brings_none
loop-at-preserved-then-brings_none c =
    let row = c.index-rows-at.result in
    let rows = c.args.rows.now in
    rows_skip rows c.loop-at.at row c.loop-at.met.keys c.loop-at-test.true c.index-rows-at.is
    (λ r of. c.brings_none.ensures c.if-brings_none.true row r (subst (λ x. IsOfRow x r) c.index-rows-at.is of)) c.loop-at.invariant

pub returns-then-branch : goal.returns-then-branch
returns-then-branch c =
    let row = c.index-rows-at.result in
    let rows = c.args.rows.now in
    let old = c.loop-at.met.keys in
    let new = c.passes.new.met.keys in
    rows_many rows c.loop-at.at row old new c.loop-at-test.true c.index-rows-at.is c.loop-at.invariant (subst (λ (b : Bool). IsPassed row old new b) c.if-branch.true c.in_ok-passes.ensures)

pub loop-at-preserved : goal.loop-at-preserved
loop-at-preserved c =
    let row = c.index-rows-at.result in
    let rows = c.args.rows.now in
    let old = c.loop-at.met.keys in
    let new = c.passes.new.met.keys in
    rows_next rows c.loop-at.at row old new c.loop-at-test.true c.index-rows-at.is c.loop-at.invariant (subst (λ (b : Bool). IsPassed row old new b) c.if-branch.false c.in_ok-passes.ensures)

pub returns : goal.returns
returns c =
    let le : length c.args.rows.now ≤ c.loop-at.at = omega arith in
    rows_end c.args.rows.now c.loop-at.at c.loop-at.met.keys le c.loop-at.invariant
