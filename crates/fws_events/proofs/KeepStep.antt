-- Walks that give the same fates answer alike, and list alike.
use Rattle.std.proofs.Common.{◌≡◌, Bool, List, [], ◌∷◌, ◌++◌, refl, ap, ◌∙◌}
use Rattle.fws_events.specs.declared.events.Answer.{Answer}
use Rattle.fws_events.specs.declared.events.Event.{Event}
use Rattle.fws_events.specs.declared.events.Event.TheVariants as events
use Rattle.fws_events.specs.Runs.{class_against, fate_against, tracked, with_conn, answer_of, answer_to, conns_behind, answers_to, conns_behind_all, conns_behind_each, GiveSameFates, GiveSameFatesAt, IsMet, AreMet}
use Rattle.fws_events.specs.RunText.{answers_text, conns_text, run_text}
use Rattle.fws_net.specs.declared.connection.Conn.{Conn}
use Rattle.fws_net.specs.declared.connection.Kind.{Kind}
use Rattle.fws_net.specs.declared.outcome.Fate.{Fate}
use Rattle.fws_net.specs.declared.outcome.Outcome.{Outcome}
use Rattle.fws_net.specs.declared.packet.Packet.{Packet}
use Rattle.fws_net.specs.declared.site.Site.{Site}
use Rattle.fws_net.specs.Connections.{fate_in}

both : {A : Type 0} (a b : A) (xs ys : List A) → a ≡ b → xs ≡ ys → a ∷ xs ≡ b ∷ ys
both a b xs ys e f = ap (λ x. x ∷ xs) e ∙ ap (λ zs. b ∷ zs) f

-- the walks give the packet of an event the same fate
abbrev AreAlikeAt : (Packet → Kind → Outcome) → (Packet → Kind → Outcome) → List Conn → Event → Type 0
AreAlikeAt walk other conns (events.Packet p) = fate_against walk conns p ≡ fate_in (other p (class_against conns p)) p (class_against conns p)
AreAlikeAt walk other conns (events.Expire k) = Unit {0}

-- and those of all events, in the run of the first walk
abbrev AreAlike : Bool → (Packet → Kind → Outcome) → (Packet → Kind → Outcome) → List Conn → List Event → Type 0
AreAlike tracks walk other conns [] = Unit {0}
AreAlike tracks walk other conns (e ∷ es) = AreAlikeAt walk other conns e × AreAlike tracks walk other (conns_behind tracks walk conns e) es

alike_at : (walk other : Packet → Kind → Outcome) → GiveSameFates walk other → (conns : List Conn) (e : Event) → AreAlikeAt walk other conns e
alike_at walk other same conns (events.Packet p) = same p (class_against conns p)
alike_at walk other same conns (events.Expire k) = tt

pub everywhere : (tracks : Bool) (walk other : Packet → Kind → Outcome) → GiveSameFates walk other → (conns : List Conn) (es : List Event) → AreAlike tracks walk other conns es
everywhere tracks walk other same conns [] = tt
everywhere tracks walk other same conns (e ∷ es) = (alike_at walk other same conns e, everywhere tracks walk other same (conns_behind tracks walk conns e) es)

met_at : (site : Site) (walk other : Packet → Kind → Outcome) → GiveSameFatesAt site walk other → (conns : List Conn) (e : Event) → IsMet site conns e → AreAlikeAt walk other conns e
met_at site walk other same conns (events.Packet p) met = same p (class_against conns p) met
met_at site walk other same conns (events.Expire k) met = tt

pub at_site : (site : Site) (tracks : Bool) (walk other : Packet → Kind → Outcome) → GiveSameFatesAt site walk other → (conns : List Conn) (es : List Event)
    → AreMet site tracks walk conns es → AreAlike tracks walk other conns es
at_site site tracks walk other same conns [] met = tt
at_site site tracks walk other same conns (e ∷ es) met =
    (met_at site walk other same conns e met.0, at_site site tracks walk other same (conns_behind tracks walk conns e) es met.1)

same_answer : (walk other : Packet → Kind → Outcome) (conns : List Conn) (e : Event) → AreAlikeAt walk other conns e → answer_to walk conns e ≡ answer_to other conns e
same_answer walk other conns (events.Packet p) same = ap (λ (fate : Fate). answer_of (class_against conns p) fate) same
same_answer walk other conns (events.Expire k) same = refl

same_behind : (tracks : Bool) (walk other : Packet → Kind → Outcome) (conns : List Conn) (e : Event) → AreAlikeAt walk other conns e
    → conns_behind tracks walk conns e ≡ conns_behind tracks other conns e
same_behind tracks walk other conns (events.Packet p) same = ap (λ (fate : Fate). with_conn conns (tracked tracks p (class_against conns p) fate)) same
same_behind tracks walk other conns (events.Expire k) same = refl

pub same_answers : (tracks : Bool) (walk other : Packet → Kind → Outcome) (conns : List Conn) (es : List Event) → AreAlike tracks walk other conns es
    → answers_to tracks walk conns es ≡ answers_to tracks other conns es
same_answers tracks walk other conns [] same = refl
same_answers tracks walk other conns (e ∷ es) same =
    both (answer_to walk conns e) (answer_to other conns e) (answers_to tracks walk (conns_behind tracks walk conns e) es)
    (answers_to tracks other (conns_behind tracks other conns e) es) (same_answer walk other conns e same.0)
    (same_answers tracks walk other (conns_behind tracks walk conns e) es same.1
    ∙ ap (λ (cs : List Conn). answers_to tracks other cs es) (same_behind tracks walk other conns e same.0))

pub same_all : (tracks : Bool) (walk other : Packet → Kind → Outcome) (conns : List Conn) (es : List Event) → AreAlike tracks walk other conns es
    → conns_behind_all tracks walk conns es ≡ conns_behind_all tracks other conns es
same_all tracks walk other conns [] same = refl
same_all tracks walk other conns (e ∷ es) same = same_all tracks walk other (conns_behind tracks walk conns e) es same.1
    ∙ ap (λ (cs : List Conn). conns_behind_all tracks other cs es) (same_behind tracks walk other conns e same.0)

pub same_each : (tracks : Bool) (walk other : Packet → Kind → Outcome) (conns : List Conn) (es : List Event) → AreAlike tracks walk other conns es
    → conns_behind_each tracks walk conns es ≡ conns_behind_each tracks other conns es
same_each tracks walk other conns [] same = refl
same_each tracks walk other conns (e ∷ es) same =
    both (conns_behind tracks walk conns e) (conns_behind tracks other conns e) (conns_behind_each tracks walk (conns_behind tracks walk conns e) es)
    (conns_behind_each tracks other (conns_behind tracks other conns e) es) (same_behind tracks walk other conns e same.0)
    (same_each tracks walk other (conns_behind tracks walk conns e) es same.1
    ∙ ap (λ (cs : List Conn). conns_behind_each tracks other cs es) (same_behind tracks walk other conns e same.0))

pub same_text : (tracks : Bool) (walk other : Packet → Kind → Outcome) (es : List Event) → AreAlike tracks walk other [] es → run_text tracks walk es ≡ run_text tracks other es
same_text tracks walk other es same =
    ap (λ (given : List Answer). answers_text es given ++ conns_text (conns_behind_all tracks walk [] es)) (same_answers tracks walk other [] es same)
    ∙ ap (λ (cs : List Conn). answers_text es (answers_to tracks other [] es) ++ conns_text cs) (same_all tracks walk other [] es same)
