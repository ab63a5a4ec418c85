use Rattle.std.proofs.Common.{ℕ, ◌+◌, List, length, sym, ◌∙◌, ap, subst}
use Rattle.std.proofs.lemmas.List.{length_push}
use Rattle.fws_events.specs.Listing.{AreApart, joined}
use Rattle.fws_events.proofs.Apart.{is_new, more_apart}
use Rattle.fws_net.specs.declared.connection.Conn.{Conn}
use Rattle.fws_events.proofs.listing.Listed.append.Goals as goal

pub invariant_of-self-2 : goal.invariant_of-self-2
invariant_of-self-2 c =
    let conns : List Conn = joined c.self.inside.chunks.items in (
      c.in_ok-count.ensures ∙ ap (λ (n : ℕ). n + 1) c.self.invariant.0 ∙ sym (length_push conns c.args.conn) ∙ ap length (sym c.in_ok-put_entry.ensures.appended),
      c.put_entry.ensures.known c.self.invariant.1,
      λ is.
          let h = c.stay_apart-apart.ensures is in
          subst AreApart (sym c.in_ok-put_entry.ensures.appended) (more_apart c.classes_are_found_in_order.ensures.alike conns c.args.conn
          (c.self.invariant.2 h.0) (sym (c.self.invariant.1 c.args.conn.orig) ∙ is_new _ h.1) (sym (c.self.invariant.1 c.args.conn.reply) ∙ is_new _ h.2)),
    )
