use Rattle.std.proofs.Common.{ℕ, Bool, ◌∙◌, sym, ap}
use Rattle.std.specs.Str.{bytes_eq}
use Rattle.fws_iv.specs.Ivs.{has}
use Rattle.fws_table.specs.TableText.{entry_name}
use Rattle.fws_top.proofs.AskSets.{tried_put, tried_over}
use Rattle.fws_top.proofs.ask_set.entry_set.Goals as goal
use Rattle.fws_top.proofs.ask_set.entry_set.Goals.{then-is_named+in_ok-extend, else-is_named}

pub loop-entry-preserved : goal.loop-entry-preserved
loop-entry-preserved c =
    let f : ℕ → Bool = λ x. bytes_eq (entry_name c.args.site.now x) c.args.name.now in
    elim c.if-is_named.branch [
      | then-is_named+in_ok-extend w ↦ λ x.
          ap (λ s. has s x) w.set-is
          ∙ tried_put f c.loop-entry.set w.extend.new.self c.loop-entry.entry (sym c.is_named.ensures ∙ w.if-is_named.true) w.in_ok-extend.ensures.ok c.loop-entry.invariant x
      | else-is_named w ↦ λ x.
          ap (λ s. has s x) w.set-is ∙ tried_over f c.loop-entry.set c.loop-entry.entry (sym c.is_named.ensures ∙ w.if-is_named.false) c.loop-entry.invariant x
    ]
