use Rattle.std.proofs.Common.{◌≡◌, Result, Ok, Err, OnErr, sym, ◌∙◌, subst}
use Rattle.fws_events.specs.Listing.{AreApart}
use Rattle.fws_events.proofs.Apart.{is_new, more_apart}
use Rattle.fws_events.proofs.chunks.Chunk.append.Goals as goal

on_err : {A E : Type 0} (r : Result A E) (P : Type 0) → P → OnErr r P
on_err (Ok x) P p = tt
on_err (Err e) P p = p

pub invariant_of-self : goal.invariant_of-self
invariant_of-self c = (c.put_entry.ensures.known c.self.invariant.0, λ is. subst AreApart (sym c.in_err-put_entry.ensures.kept) (c.self.invariant.1 is))

pub invariant_of-self-2 : goal.invariant_of-self-2
invariant_of-self-2 c = (
  c.put_entry.ensures.known c.self.invariant.0,
  λ is.
      let h = c.stay_apart-apart.ensures is in
      subst AreApart (sym c.in_ok-put_entry.ensures.appended) (more_apart c.classes_are_found_in_order.ensures.alike c.self.inside.list.items c.args.conn
      (c.self.invariant.1 h.0) (sym (c.self.invariant.0 c.args.conn.orig) ∙ is_new _ h.1) (sym (c.self.invariant.0 c.args.conn.reply) ∙ is_new _ h.2)),
)

pub returns-in_err-put_entry-clause-kept : goal.returns-in_err-put_entry-clause-kept
returns-in_err-put_entry-clause-kept c =
    on_err c.from_residual.result (c.put_entry.new.list.items ≡ c.args.self.now) (c.in_err-put_entry.ensures.kept ∙ c.self.view_is)
