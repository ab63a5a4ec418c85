-- Lines of rules by places are those that spots tell, and texts of walks that agree are the same.
use Rattle.std.proofs.Common.{◌≡◌, ℕ, ◌+◌, ◌<◌, Option, Some, None, List, [], ◌∷◌, ◌++◌, length, take, get_or, All, refl, sym, ◌∙◌, ap}
use Rattle.std.proofs.lemmas.Grind.{flat_map-append}
use Rattle.std.proofs.lemmas.List.{take_more, flat_map_more}
use Rattle.std.proofs.lemmas.List.Elements.{recursion_from_All}
use Rattle.std.specs.List.{flat_map, AllByRecursion}
use Rattle.std.specs.Option.{option_map_or}
use Rattle.fws_flat.specs.declared.code.Flat.{Flat}
use Rattle.fws_flat.specs.Walk.{means}
use Rattle.fws_ifcl.specs.declared.diagram.Place.{Place}
use Rattle.fws_ifcl.specs.declared.diagram.Spot.{Spot}
use Rattle.fws_ifcl.specs.Spots.{told as told_by_spots, numbers_at}
use Rattle.fws_net.specs.declared.connection.Conn.{Conn}
use Rattle.fws_net.specs.declared.connection.Kind.{Kind}
use Rattle.fws_net.specs.declared.outcome.Outcome.{Outcome}
use Rattle.fws_net.specs.declared.packet.Packet.{Packet}
use Rattle.fws_net.specs.declared.site.Site.{Site}
use Rattle.fws_net.specs.Connections.{tuple_of, class_of, fate_in}
use Rattle.fws_trace.specs.PacketText.{IsOfSite}
use Rattle.fws_trace.specs.TraceText.{line_text}
use Rattle.fws_unfold.specs.Told.{told}
use Rattle.fws_unfold.specs.Used.{stands_for}
use Rattle.fws_why.specs.declared.numbers.Numbers.{Numbers}
use Rattle.fws_why.specs.Numbers.{AreNumbersOf, numbers_in, place_at, found_at}
use Rattle.fws_why.specs.Walked.{IsWalkOf, used_of}
use Rattle.fws_why.specs.WhyText.{used_line, used_lines, packet_text, why_text}

-- the lines of one instruction ahead of those of others
one_ahead : (labels : List (List ℕ)) (numbers : Numbers) (spots : List Spot) (place : Option Place) (places : List Place) → AreNumbersOf numbers spots
    → used_lines labels (option_map_or (numbers_in numbers) place []) ++ used_lines labels (told_by_spots spots places)
    ≡ used_lines labels (told_by_spots spots (stands_for place ++ places))
one_ahead labels numbers spots None places are = refl
one_ahead labels numbers spots (Some place) places are =
    ap (λ (ns : List ℕ). used_lines labels ns ++ used_lines labels (told_by_spots spots places)) (are place)
    ∙ sym (flat_map-append (used_line labels) (numbers_at spots place) (told_by_spots spots places))

-- the lines of instructions one by one
pub lines_told : (labels : List (List ℕ)) (numbers : Numbers) (from : List (Option Place)) (spots : List Spot) (used : List ℕ) → AreNumbersOf numbers spots
    → flat_map (λ n. used_lines labels (found_at numbers from n)) used ≡ used_lines labels (told_by_spots spots (told from used))
lines_told labels numbers from spots [] are = refl
lines_told labels numbers from spots (n ∷ used) are =
    ap (λ (text : List ℕ). used_lines labels (found_at numbers from n) ++ text) (lines_told labels numbers from spots used are)
    ∙ one_ahead labels numbers spots (place_at from n) (told from used) are

-- one more packet
pub next_packet : (walk : Packet → Kind → Outcome) (used : Packet → Kind → List ℕ) (labels : List (List ℕ)) (conns : List Conn) (packets : List Packet) (i : ℕ) (d : Packet)
    (old new : List ℕ) (k : Kind) → i < length packets → old ≡ why_text walk used labels conns (take i packets) → k ≡ class_of conns (tuple_of (get_or packets i d))
    → new ≡ old ++ packet_text walk used labels (get_or packets i d) k → new ≡ why_text walk used labels conns (take (i + 1) packets)
next_packet walk used labels conns packets i d old new k lt so_far class made =
    let p : Packet = get_or packets i d in
    let said : Packet → List ℕ = λ q. packet_text walk used labels q (class_of conns (tuple_of q)) in
    made ∙ ap (λ (x : List ℕ). x ++ packet_text walk used labels p k) so_far
    ∙ ap (λ (l : Kind). why_text walk used labels conns (take i packets) ++ packet_text walk used labels p l) class
    ∙ flat_map_more said [] (take i packets) p
    ∙ ap (λ (ps : List Packet). why_text walk used labels conns ps) (sym (take_more packets i d lt))

-- what is said of a packet is the same where its outcome and what it uses are
same_packet : (w v : Packet → Kind → Outcome) (u t : Packet → Kind → List ℕ) (labels : List (List ℕ)) (p : Packet) (k : Kind) → w p k ≡ v p k → u p k ≡ t p k
    → packet_text w u labels p k ≡ packet_text v t labels p k
same_packet w v u t labels p k walks uses =
    ap (λ (o : Outcome). line_text p k (fate_in o p k) ++ used_lines labels (u p k)) walks
    ∙ ap (λ (ns : List ℕ). line_text p k (fate_in (v p k) p k) ++ used_lines labels ns) uses

same_each : (site : Site) (code : Flat) (from : List (Option Place)) (spots : List Spot) (walk : Packet → Kind → Outcome) (used : Packet → Kind → List ℕ)
    (labels : List (List ℕ)) (conns : List Conn) (packets : List Packet) → IsWalkOf site code from spots walk used → AllByRecursion (IsOfSite site) packets
    → why_text (means code site) (used_of code from spots site) labels conns packets ≡ why_text walk used labels conns packets
same_each site code from spots walk used labels conns [] is all = refl
same_each site code from spots walk used labels conns (p ∷ packets) is all =
    let k : Kind = class_of conns (tuple_of p) in
    let w : Packet → Kind → Outcome = means code site in
    let u : Packet → Kind → List ℕ = used_of code from spots site in
    ap (λ (text : List ℕ). text ++ why_text w u labels conns packets) (same_packet w walk u used labels p k (is.walks p k all.0) (is.uses p k all.0))
    ∙ ap (λ (text : List ℕ). packet_text walk used labels p k ++ text) (same_each site code from spots walk used labels conns packets is all.1)

-- the text is that of each walk that the code is of
pub same_text : (site : Site) (code : Flat) (from : List (Option Place)) (spots : List Spot) (walk : Packet → Kind → Outcome) (used : Packet → Kind → List ℕ)
    (labels : List (List ℕ)) (conns : List Conn) (packets : List Packet) → IsWalkOf site code from spots walk used → All (IsOfSite site) packets
    → why_text (means code site) (used_of code from spots site) labels conns packets ≡ why_text walk used labels conns packets
same_text site code from spots walk used labels conns packets is all =
    same_each site code from spots walk used labels conns packets is (recursion_from_All (IsOfSite site) packets all)
