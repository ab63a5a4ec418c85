use Rattle.std.proofs.Common.{◌≡◌, ◌+◌, ℕ, List, length, arith, sym, subst}
use Rattle.fws_ios.specs.declared.config.IosList.{IosList}
use Rattle.fws_ios_put.specs.Layout.{AreLists}
use Rattle.fws_ios_put.proofs.ListsApart.{more_lists, no_lists}
use Rattle.fws_ios_put.proofs.lists.lists_of.Goals as goal

pub loop-i-init : goal.loop-i-init
loop-i-init c =
    subst (λ (ls : List IosList). AreLists c.args.site.now c.args.new.now.1 c.args.known.now.1 c.args.leaders.now 1 ls) (sym c.new-lists.ensures)
    (no_lists c.args.site.now c.requires.named c.args.new.now.1 c.args.known.now.1 c.args.leaders.now)

pub loop-i-preserved : goal.loop-i-preserved
loop-i-preserved c =
    let i = c.loop-i.i in
    let lt = c.loop-i-test.true in
    let size = c.requires.leaders.size in
    more_lists c.args.site.now c.requires.named c.args.new.now.1 c.args.known.now.1 c.args.leaders.now (i + 1) c.loop-i.lists c.put_own.new.lists (omega arith) (omega arith) c.loop-i.invariant
    c.in_ok-put_own.ensures

pub returns : goal.returns
returns c =
    let ge = c.loop-i-test.false in
    let le = c.loop-i.auto.i-end in
    let same : c.loop-i.i ≡ length c.args.leaders.now = omega arith in
    subst (λ (n : ℕ). AreLists c.args.site.now c.args.new.now.1 c.args.known.now.1 c.args.leaders.now (n + 1) c.loop-i.lists) same c.loop-i.invariant
