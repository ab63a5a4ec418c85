-- Fates by tables as those of a walk.
use Rattle.std.proofs.Common.{◌≡◌, Bool, Option, Some, Result, Ok, Err, IfOk, OnOk, List, ap, sym, ◌∙◌, unwrap_or, refl}
use Rattle.fws_box.specs.Sides.{IsWithin}
use Rattle.fws_events.specs.declared.events.Answer.{Answer}
use Rattle.fws_events.specs.declared.events.Event.TheVariants as events
use Rattle.fws_events.specs.Runs.{class_against, fate_against, tracked, answer_of, answer_to, appended_by, GivesFates}
use Rattle.fws_net.specs.declared.connection.Conn.{Conn}
use Rattle.fws_net.specs.declared.connection.Kind.{Kind}
use Rattle.fws_net.specs.declared.connection.Kind.TheVariants as kinds
use Rattle.fws_net.specs.declared.outcome.Fate.{Fate}
use Rattle.fws_net.specs.declared.outcome.Outcome.{Outcome}
use Rattle.fws_net.specs.declared.outcome.Outcome.TheVariants.{Drop}
use Rattle.fws_net.specs.declared.packet.Packet.{Packet}
use Rattle.fws_net.specs.declared.packet.State.TheVariants.{Fresh, Est}
use Rattle.fws_net.specs.declared.site.Site.{Site}
use Rattle.fws_net.specs.Connections.{fate_in}
use Rattle.fws_net.specs.Points.{tops_of}
use Rattle.fws_trace.specs.Outcomes.{no_ends, point_with, point_of, table_of, outcome_by, IsWalked}
use Rattle.fws_tree.specs.declared.tables.Tables.{Tables}
use Rattle.fws_tree.specs.Plain.{value}

-- the tables give their own fates
pub by_tables : (site : Site) (t : Tables) → GivesFates site t (outcome_by t)
by_tables site t p k within = refl

-- a walk gives the fates of its tables
pub by_walk : (site : Site) (t : Tables) (walk : Packet → Kind → Outcome) → IsWalked site Fresh walk t.fresh.1 → IsWalked site Est walk t.est.1 → GivesFates site t walk
by_walk site t walk fresh est p kinds.New within = ap (λ (o : Option Outcome). fate_in (unwrap_or o Drop) p kinds.New) (sym (fresh (point_with p no_ends) within))
by_walk site t walk fresh est p (kinds.Est r) within = ap (λ (o : Option Outcome). fate_in (unwrap_or o Drop) p (kinds.Est r)) (sym (est (point_with p r) within))

-- the fate of a packet by the tables, for a walk that gives the same
fated : (site : Site) (t : Tables) (walk : Packet → Kind → Outcome) (conns : List Conn) (p : Packet) (k : Kind) (o : Outcome) (fate : Fate) → GivesFates site t walk
    → k ≡ class_against conns p → value (table_of t k) (point_of p k) ≡ Some o → IsWithin (tops_of site) (point_of p k) → fate ≡ fate_in o p k
    → fate ≡ fate_against walk conns p
fated site t walk conns p k o fate gives is found within made =
    made ∙ ap (λ (x : Option Outcome). fate_in (unwrap_or x Drop) p k) (sym found) ∙ sym (gives p k within) ∙ ap (λ (l : Kind). fate_in (walk p l) p l) is

-- the answer to a packet, and the connection that it appends
pub judged_so : (site : Site) (t : Tables) (tracks : Bool) (walk : Packet → Kind → Outcome) (conns : List Conn) (p : Packet) (k : Kind) (o : Outcome) (fate : Fate) (answer : Answer)
    (conn : Option Conn) → GivesFates site t walk → k ≡ class_against conns p → value (table_of t k) (point_of p k) ≡ Some o → IsWithin (tops_of site) (point_of p k)
    → fate ≡ fate_in o p k → answer ≡ answer_of k fate → conn ≡ tracked tracks p k fate
    → (answer ≡ answer_to walk conns (events.Packet p)) × (conn ≡ appended_by tracks walk conns (events.Packet p))
judged_so site t tracks walk conns p k o fate answer conn gives is found within made answered opened =
    let same = fated site t walk conns p k o fate gives is found within made in (
      answered ∙ ap (λ (f : Fate). answer_of k f) same ∙ ap (λ (l : Kind). answer_of l (fate_against walk conns p)) is,
      opened ∙ ap (λ (f : Fate). tracked tracks p k f) same ∙ ap (λ (l : Kind). tracked tracks p l (fate_against walk conns p)) is,
    )

-- what holds of an answer and of a list, apart
pub of_answer : {E : Type 0} (r : Result Answer E) (P : Answer → Type 0) (Q : Type 0) → IfOk r (λ a. P a × Q) → IfOk r P
of_answer (Ok a) P Q h = h.0
of_answer (Err e) P Q h = tt

pub of_list : {E : Type 0} (r : Result Answer E) (P : Answer → Type 0) (Q : Type 0) → IfOk r (λ a. P a × Q) → OnOk r Q
of_list (Ok a) P Q h = h.1
of_list (Err e) P Q h = tt
