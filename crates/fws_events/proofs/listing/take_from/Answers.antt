use Rattle.std.proofs.Common.{◌≡◌, ℕ, ◌+◌, ◌<◌, List, [], length, get_or, set, take, sym, ◌∙◌, ap, subst}
use Rattle.std.proofs.lemmas.List.{get_or_default}
use Rattle.std.proofs.lemmas.List.Concat.{get_or-flat_map}
use Rattle.std.specs.List.{remove}
use Rattle.fws_events.specs.Listing.{joined}
use Rattle.fws_events.proofs.Chunked.{taken_there}
use Rattle.fws_net.specs.declared.connection.Conn.{Conn}
use Rattle.fws_events.proofs.listing.take_from.Goals as goal

pub returns-clause-taken : goal.returns-clause-taken
returns-clause-taken c =
    let items : List (List Conn) = c.args.chunks.now.items in
    let at = c.place_of-at.result.0 in
    let entry = c.place_of-at.result.1 in
    let lt : at < length items = subst (λ (cs : List (List Conn)). at < length cs) c.as_slice.ensures.value c.place_of-at.ensures.chunk in
    let inside : entry < length (get_or items at []) = subst (λ (cs : List (List Conn)). entry < length (get_or cs at [])) c.as_slice.ensures.value c.place_of-at.ensures.entry in
    let place : c.args.k ≡ length (joined (take at items)) + entry =
    subst (λ (cs : List (List Conn)). c.args.k ≡ length (joined (take at cs)) + entry) c.as_slice.ensures.value c.place_of-at.ensures.place in
    let chunk : c.index_mut.result.now ≡ get_or items at [] = c.index_mut.ensures.value ∙ get_or_default items at c.index_mut.result.now [] lt in
    c.leave_out_empty.ensures ∙ ap (λ (w : List Conn). joined (set items at w)) (c.take-conn.ensures.taken ∙ ap (λ (cs : List Conn). remove cs entry) chunk)
    ∙ taken_there items at entry c.args.k lt inside place

pub returns-clause-given : goal.returns-clause-given
returns-clause-given c =
    let items : List (List Conn) = c.args.chunks.now.items in
    let at = c.place_of-at.result.0 in
    let entry = c.place_of-at.result.1 in
    let conn : Conn = c.take-conn.result in
    let lt : at < length items = subst (λ (cs : List (List Conn)). at < length cs) c.as_slice.ensures.value c.place_of-at.ensures.chunk in
    let inside : entry < length (get_or items at []) = subst (λ (cs : List (List Conn)). entry < length (get_or cs at [])) c.as_slice.ensures.value c.place_of-at.ensures.entry in
    let place : c.args.k ≡ length (joined (take at items)) + entry =
    subst (λ (cs : List (List Conn)). c.args.k ≡ length (joined (take at cs)) + entry) c.as_slice.ensures.value c.place_of-at.ensures.place in
    let chunk : c.index_mut.result.now ≡ get_or items at [] = c.index_mut.ensures.value ∙ get_or_default items at c.index_mut.result.now [] lt in
    c.take-conn.ensures.given ∙ ap (λ (cs : List Conn). get_or cs entry conn) chunk ∙ sym (get_or-flat_map (λ (x : List Conn). x) items at entry [] conn lt inside)
    ∙ ap (λ (n : ℕ). get_or (joined items) n conn) (sym place)
