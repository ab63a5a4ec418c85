use Rattle.std.proofs.Common.{◌≡◌, suc, List, ◌∷◌, ◌++◌, take, drop, sym, ◌∙◌, ap, subst}
use Rattle.fws_events.specs.Listing.{AreApart}
use Rattle.fws_events.proofs.Apart.{gone, still_apart, match_self, or_left, or_right}
use Rattle.fws_events.proofs.Entries.{parted}
use Rattle.fws_events.proofs.Removed.{without}
use Rattle.fws_net.specs.declared.connection.Conn.{Conn}
use Rattle.fws_net.specs.Connections.{matches, class_of}
use Rattle.fws_trace.specs.Classes.{class_in, settled}
use Rattle.fws_events.proofs.chunks.take_entry.Goals as goal

pub returns-clause-known : goal.returns-clause-known
returns-clause-known c are apart t =
    let conns : List Conn = c.args.list.now.items in
    let k = c.args.k in
    let conn : Conn = c.remove-conn.result in
    let rest : List Conn = c.remove-conn.new.self.items in
    let xs = take k conns in
    let ys = drop (suc k) conns in
    let old = class_in c.args.classes.now t in
    let mid = class_in c.settle.new.classes t in
    let parts : conns ≡ xs ++ conn ∷ ys = parted k conns conn c.requires ∙ ap (λ (x : Conn). xs ++ x ∷ ys) (sym c.remove-conn.ensures.value) in
    let left : rest ≡ xs ++ ys = c.remove-conn.ensures.items in
    without c.classes_are_found_in_order.ensures.alike xs ys conns rest conn t old mid (class_in c.settle-2.new.classes t) parts left (are t)
    (c.settle.ensures
    (λ is. ap (λ (cs : List Conn). class_of cs conn.orig) (c.as_slice.ensures.value ∙ left)
    ∙ gone xs ys conn conn.orig (subst AreApart parts (apart is)) (or_left (matches conn.orig conn.orig) (matches conn.reply conn.orig) (match_self conn.orig))) t
    ∙ ap (λ (cs : List Conn). settled (matches conn.orig t) (class_of cs conn.orig) old) c.as_slice.ensures.value)
    (c.settle-2.ensures
    (λ is. ap (λ (cs : List Conn). class_of cs conn.reply) (c.as_slice-2.ensures.value ∙ left)
    ∙ gone xs ys conn conn.reply (subst AreApart parts (apart is)) (or_right (matches conn.orig conn.reply) (matches conn.reply conn.reply) (match_self conn.reply))) t
    ∙ ap (λ (cs : List Conn). settled (matches conn.reply t) (class_of cs conn.reply) mid) c.as_slice-2.ensures.value)

pub returns-clause-apart : goal.returns-clause-apart
returns-clause-apart c apart =
    let conns : List Conn = c.args.list.now.items in
    let k = c.args.k in
    let conn : Conn = c.remove-conn.result in
    let parts : conns ≡ take k conns ++ conn ∷ drop (suc k) conns =
    parted k conns conn c.requires ∙ ap (λ (x : Conn). take k conns ++ x ∷ drop (suc k) conns) (sym c.remove-conn.ensures.value) in
    subst AreApart (sym c.remove-conn.ensures.items) (still_apart (take k conns) (drop (suc k) conns) conn (subst AreApart parts apart))
