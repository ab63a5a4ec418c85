use Rattle.std.proofs.Common.{◌≡◌, ℕ, suc, ◌-◌, ◌<◌, Result, Ok, Err, OnOk, List, [], ◌∷◌, ◌++◌, length, set, ◌∙◌, ap, arith}
use Rattle.std.proofs.lemmas.List.{get_or_default}
use Rattle.fws_events.specs.Listing.{joined}
use Rattle.fws_events.proofs.Chunked.{put_behind}
use Rattle.fws_net.specs.declared.connection.Conn.{Conn}
use Rattle.fws_events.proofs.listing.put_last.Goals as goal

ok_then : {A E : Type 0} (r : Result A E) (P Q : Type 0) → (P → Q) → OnOk r P → OnOk r Q
ok_then (Ok x) P Q f p = f p
ok_then (Err e) P Q f p = tt

pub returns-clause-appended : goal.returns-clause-appended
returns-clause-appended c =
    let items : List (List Conn) = c.make_room.new.chunks.items in
    let conn : Conn = c.args.conn in
    let n : ℕ = c.len-last.result - 1 in
    let chunk : List Conn = c.index_mut.result.now in
    let len : c.len-last.result ≡ length items = c.len-last.ensures ∙ c.make_room.new.chunks.ok.0 in
    let there : 0 < length items = c.in_ok-make_room.ensures.there in
    let one : length items ≡ suc n = omega arith in
    let lt : n < length items = omega arith in
    ok_then c.append.result (c.append.new.self ≡ chunk ++ conn ∷ []) (joined (set items n c.append.new.self) ≡ joined c.args.chunks.now.items ++ conn ∷ [])
    (λ e. ap (λ (w : List Conn). joined (set items n w)) (e ∙ ap (λ (xs : List Conn). xs ++ conn ∷ []) (c.index_mut.ensures.value ∙ get_or_default items n chunk [] lt))
    ∙ put_behind items n conn one ∙ ap (λ (cs : List Conn). cs ++ conn ∷ []) c.make_room.ensures.kept)
    c.append.ensures.appended
