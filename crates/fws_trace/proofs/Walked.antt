-- Outcomes by tables and by the walk that these are made of, and one more line of a trace.
use Rattle.std.proofs.Common.{◌≡◌, ℕ, ◌+◌, ◌<◌, Some, List, [], ◌++◌, length, take, get_or, unwrap_or, sym, ◌∙◌, ap}
use Rattle.std.proofs.lemmas.List.{take_more, flat_map_more}
use Rattle.fws_box.specs.Sides.{IsWithin}
use Rattle.fws_net.specs.declared.connection.Conn.{Conn}
use Rattle.fws_net.specs.declared.connection.Kind.{Kind}
use Rattle.fws_net.specs.declared.connection.Kind.TheVariants as kinds
use Rattle.fws_net.specs.declared.connection.Rec.{Rec}
use Rattle.fws_net.specs.declared.outcome.Outcome.{Outcome}
use Rattle.fws_net.specs.declared.outcome.Outcome.TheVariants.{Drop}
use Rattle.fws_net.specs.declared.packet.Packet.{Packet}
use Rattle.fws_net.specs.declared.packet.State.TheVariants.{Fresh, Est}
use Rattle.fws_net.specs.declared.site.Site.{Site}
use Rattle.fws_net.specs.Connections.{tuple_of, class_of}
use Rattle.fws_net.specs.Points.{tops_of}
use Rattle.fws_tree.specs.declared.tables.Tables.{Tables}
use Rattle.fws_tree.specs.Plain.{value}
use Rattle.fws_trace.specs.Outcomes.{no_ends, point_with, point_of, table_of, outcome_by, IsWalked}
use Rattle.fws_trace.specs.TraceText.{line_of, traced_line, trace_text}

-- a new packet as its table has it
pub new_outcome : (t : Tables) (p : Packet) (k : Kind) (o : Outcome) (point : List ℕ) → k ≡ kinds.New → point ≡ point_with p no_ends → value t.fresh.1 point ≡ Some o
    → value (table_of t k) (point_of p k) ≡ Some o
new_outcome t p k o point is same found = ap (λ (l : Kind). value (table_of t l) (point_of p l)) is ∙ ap (λ (q : List ℕ). value t.fresh.1 q) (sym same) ∙ found

-- an established packet as its table has it
pub est_outcome : (t : Tables) (p : Packet) (k : Kind) (r : Rec) (o : Outcome) (point : List ℕ) → k ≡ kinds.Est r → point ≡ point_with p r → value t.est.1 point ≡ Some o
    → value (table_of t k) (point_of p k) ≡ Some o
est_outcome t p k r o point is same found = ap (λ (l : Kind). value (table_of t l) (point_of p l)) is ∙ ap (λ (q : List ℕ). value t.est.1 q) (sym same) ∙ found

-- the outcome by the tables
pub by_tables : (t : Tables) (p : Packet) (k : Kind) (o : Outcome) → value (table_of t k) (point_of p k) ≡ Some o → o ≡ outcome_by t p k
by_tables t p k o found = ap (λ x. unwrap_or x Drop) (sym found)

-- the outcome by the walk of the tables
pub by_walk : (site : Site) (t : Tables) (walk : Packet → Kind → Outcome) (p : Packet) (k : Kind) (o : Outcome) → IsWalked site Fresh walk t.fresh.1 → IsWalked site Est walk t.est.1
    → IsWithin (tops_of site) (point_of p k) → value (table_of t k) (point_of p k) ≡ Some o → o ≡ walk p k
by_walk site t walk p kinds.New o fresh est within found =
    let same : Some o ≡ Some (walk p kinds.New) = sym found ∙ fresh (point_with p no_ends) within in cc
by_walk site t walk p (kinds.Est r) o fresh est within found =
    let same : Some o ≡ Some (walk p (kinds.Est r)) = sym found ∙ est (point_with p r) within in cc

-- one more line
pub next_line : (walk : Packet → Kind → Outcome) (conns : List Conn) (packets : List Packet) (i : ℕ) (d : Packet) (old new : List ℕ) (k : Kind) → i < length packets
    → old ≡ trace_text walk conns (take i packets) → k ≡ class_of conns (tuple_of (get_or packets i d)) → new ≡ old ++ line_of walk (get_or packets i d) k
    → new ≡ trace_text walk conns (take (i + 1) packets)
next_line walk conns packets i d old new k lt so_far class made =
    let p : Packet = get_or packets i d in
    made ∙ ap (λ (x : List ℕ). x ++ line_of walk p k) so_far ∙ ap (λ (l : Kind). trace_text walk conns (take i packets) ++ line_of walk p l) class
    ∙ flat_map_more (traced_line walk conns) [] (take i packets) p
    ∙ ap (λ (ps : List Packet). trace_text walk conns ps) (sym (take_more packets i d lt))
