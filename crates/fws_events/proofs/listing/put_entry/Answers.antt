use Rattle.std.proofs.Common.{◌≡◌, ℕ, List, [], ◌∷◌, ◌++◌, length, sym, ◌∙◌, ap, arith}
use Rattle.std.proofs.lemmas.List.{length_push}
use Rattle.std.specs.List.{remove}
use Rattle.fws_events.specs.Listing.{joined}
use Rattle.fws_events.proofs.Chunked.{taken_again}
use Rattle.fws_net.specs.declared.connection.Conn.{Conn}
use Rattle.fws_net.specs.declared.connection.Kind.{Kind}
use Rattle.fws_net.specs.Connections.{class_of}
use Rattle.fws_trace.specs.Classes.{first_class}
use Rattle.fws_events.proofs.listing.put_entry.Goals as goal

pub take_from-requires : goal.take_from-requires
take_from-requires c =
    let conns : List Conn = joined c.args.chunks.now.items in
    let now : List Conn = joined c.put_last.new.chunks.items in
    let more : length now ≡ length (conns ++ c.args.conn ∷ []) = ap length c.in_ok-put_last.ensures.appended in
    let count : c.args.count ≡ length conns = c.requires in
    omega (arith, length_push conns c.args.conn)

pub returns-in_err-put_last-clause-known : goal.returns-in_err-put_last-clause-known
returns-in_err-put_last-clause-known c are t = are t ∙ ap (λ (cs : List Conn). class_of cs t) (sym c.in_err-put_last.ensures.kept)

pub returns-in-Ok-clause-known : goal.returns-in-Ok-clause-known
returns-in-Ok-clause-known c are t =
    let conns : List Conn = joined c.args.chunks.now.items in
    c.in-Ok.ensures.noted t ∙ ap (λ (k : Kind). first_class k (class_of (c.args.conn ∷ []) t)) (are t)
    ∙ sym (c.classes_are_found_in_order.ensures.behind conns (c.args.conn ∷ []) t) ∙ ap (λ (cs : List Conn). class_of cs t) (sym c.in_ok-put_last.ensures.appended)

pub returns-in-Err-clause-kept : goal.returns-in-Err-clause-kept
returns-in-Err-clause-kept c =
    let conns : List Conn = joined c.args.chunks.now.items in
    c.take_from.ensures.taken ∙ ap (λ (cs : List Conn). remove cs c.args.count) c.in_ok-put_last.ensures.appended
    ∙ ap (λ (n : ℕ). remove (conns ++ c.args.conn ∷ []) n) c.requires ∙ taken_again conns c.args.conn

pub returns-in-Err-clause-known : goal.returns-in-Err-clause-known
returns-in-Err-clause-known c are t = c.in-Err.ensures.kept t ∙ are t ∙ ap (λ (cs : List Conn). class_of cs t) (sym (returns-in-Err-clause-kept c))
