use Rattle.std.proofs.Common.{◌≡◌, false, [], ◌∷◌, ◌++◌, rules}
use Rattle.fws_ios_put.proofs.Assembling.{no_front, state_front, whole_front}
use Rattle.fws_ios_put.proofs.Joining.{nothing_behind, two_behind}
use Rattle.fws_ios_put.proofs.blocks.put_front.Goals as goal

pub returns-then-not-branch : goal.returns-then-not-branch
returns-then-not-branch c =
    let none : c.in_ok-some_alone.field-0 ≡ false = search (rules, c.if-not-branch.true) in
    let alone = c.in_ok-some_alone.ensures none in (
      [],
      nothing_behind c.args.entries.now,
      no_front c.args.site.now c.args.c.now alone.plain alone.acked,
    )

pub returns-then-not-branch-2 : goal.returns-then-not-branch-2
returns-then-not-branch-2 c =
    let none : c.in_ok-some_denied.field-0 ≡ false = search (rules, c.if-not-branch-2.true) in
    let denied = c.in_ok-some_denied.ensures none in
    let e = c.in_ok-state_entry.field-0 in (
      e ∷ [],
      c.in_ok-put.ensures.ok,
      state_front c.args.site.now c.args.c.now e c.in_ok-state_entry.ensures denied.plain denied.acked,
    )

pub returns : goal.returns
returns c =
    let a = c.in_ok-put_ahead.ensures in
    let e = c.in_ok-state_entry-2.field-0 in (
      a.0 ++ e ∷ [],
      two_behind c.args.entries.now c.put_ahead.new.entries c.put-2.new.self a.0 (e ∷ []) a.1 c.in_ok-put-2.ensures.ok,
      whole_front c.args.site.now c.args.c.now a.0 e a.2 c.in_ok-state_entry-2.ensures,
    )
