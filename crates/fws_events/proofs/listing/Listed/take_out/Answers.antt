use Rattle.std.proofs.Common.{◌≡◌, ℕ, suc, ◌<◌, ◌≤◌, List, length, sym, ◌∙◌, ap, subst, arith}
use Rattle.std.specs.List.{remove}
use Rattle.fws_events.specs.Listing.{joined}
use Rattle.fws_events.proofs.Chunked.{one_fewer}
use Rattle.fws_events.proofs.Entries.{none_there}
use Rattle.fws_net.specs.declared.connection.Conn.{Conn}
use Rattle.fws_events.proofs.listing.Listed.take_out.Goals as goal

pub invariant_of-self : goal.invariant_of-self
invariant_of-self c =
    let conns : List Conn = joined c.self.inside.chunks.items in
    let now : List Conn = joined c.take_entry.new.chunks.items in
    let lt : c.args.entry < length conns = subst (λ (n : ℕ). c.args.entry < n) c.self.invariant.0 c.if-k-self.true in
    let fewer : length conns ≡ suc (length now) = one_fewer conns c.args.entry lt ∙ ap (λ (cs : List Conn). suc (length cs)) (sym c.take_entry.ensures.taken) in
    let was : c.self.inside.count ≡ length conns = c.self.invariant.0 in
    (omega arith, c.take_entry.ensures.known c.self.invariant.1 c.self.invariant.2, λ is. c.take_entry.ensures.apart (c.self.invariant.2 is))

pub returns-then-k-self-clause-taken : goal.returns-then-k-self-clause-taken
returns-then-k-self-clause-taken c = c.take_entry.ensures.taken ∙ ap (λ (cs : List Conn). remove cs c.args.entry) c.self.view_is

pub returns-else-k-self-clause-taken : goal.returns-else-k-self-clause-taken
returns-else-k-self-clause-taken c = sym (none_there c.args.entry c.args.self.now
    (subst (λ (cs : List Conn). length cs ≤ c.args.entry) c.self.view_is (subst (λ (n : ℕ). n ≤ c.args.entry) c.self.invariant.0 c.if-k-self.false)))
