use Rattle.std.proofs.Common.{◌≡◌, ℕ, ◌≤◌, ◌++◌, [], true, Some, length, slice_get, sym, ◌∙◌, ap, subst, arith, append_assoc, append-nil}
use Rattle.std.proofs.lemmas.Option.{slice_get-get_or}
use Rattle.fws_iv.specs.Ivs.{has}
use Rattle.fws_tree.specs.declared.node.Kid.{Kid}
use Rattle.fws_ios_put_entries.specs.Paths.{top_of}
use Rattle.fws_ios_put_lists.specs.Turns.{AreTests}
use Rattle.fws_ios_put_lists.proofs.Turning.{no_tests, tests_more}
use Rattle.fws_ios_put_lists.proofs.turns.put_kids.Goals as goal

pub put_kid-requires-clause-within : goal.put_kid-requires-clause-within
put_kid-requires-clause-within c =
    subst (λ (k : Kid). (v : ℕ) → has k.set v ≡ true → v ≤ top_of c.args.side) (sym c.kid-item.is) (c.requires.within c.loop-kid.kid-index c.kid-item.result c.loop-kid-test.true)

pub loop-kid-init : goal.loop-kid-init
loop-kid-init c = ([], sym (append-nil c.args.turns.now), no_tests c.args.side c.args.kids.now c.args.path c.args.last c.args.falls)

pub loop-kid-preserved : goal.loop-kid-preserved
loop-kid-preserved c =
    let kids = c.args.kids.now in
    let kid = c.kid-item.result in
    let inv = c.loop-kid.invariant in
    let put = c.in_ok-put_kid.ensures in
    let there : slice_get kids c.loop-kid.kid-index ≡ Some kid = slice_get-get_or kids c.loop-kid.kid-index kid c.loop-kid-test.true ∙ ap Some (sym c.kid-item.is) in (
      inv.0 ++ put.0,
      put.1 ∙ ap (λ l. l ++ put.0) inv.1 ∙ append_assoc c.args.turns.now inv.0 put.0,
      tests_more c.args.side kids c.args.path c.args.last c.args.falls c.loop-kid.kid-index kid inv.0 put.0 there inv.2 put.2,
    )

pub returns : goal.returns
returns c =
    let inv = c.loop-kid.invariant in
    let end : c.loop-kid.kid-index ≡ length c.args.kids.now = omega arith in
    (inv.0, inv.1, subst (λ n. AreTests c.args.side c.args.kids.now c.args.path c.args.last c.args.falls n inv.0) end inv.2)
