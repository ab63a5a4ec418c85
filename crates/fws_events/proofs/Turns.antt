-- Event by event through a run.
use Rattle.std.proofs.Common.{◌≡◌, ℕ, Bool, List, [], ◌∷◌, ◌++◌, sym, ◌∙◌, ap, subst, append_assoc}
use Rattle.std.proofs.lemmas.List.{append-nil}
use Rattle.fws_events.specs.declared.events.Answer.{Answer}
use Rattle.fws_events.specs.declared.events.Event.{Event}
use Rattle.fws_events.specs.Runs.{answer_to, conns_behind, answers_to, conns_behind_all, IsMet, AreMet}
use Rattle.fws_events.specs.RunText.{answer_text, answers_text, conns_text, run_text}
use Rattle.fws_net.specs.declared.connection.Conn.{Conn}
use Rattle.fws_net.specs.declared.connection.Kind.{Kind}
use Rattle.fws_net.specs.declared.outcome.Outcome.{Outcome}
use Rattle.fws_net.specs.declared.packet.Packet.{Packet}
use Rattle.fws_net.specs.declared.site.Site.{Site}
use Rattle.fws_trace.specs.Outcomes.{outcome_by}
use Rattle.fws_tree.specs.declared.tables.Tables.{Tables}

-- one more event: the text so far with the lines to come, and the list at the end, stay
pub turn : (tracks : Bool) (walk : Packet → Kind → Outcome) (e : Event) (rest now : List Event) (out next : List ℕ) (conns behind : List Conn) (a : Answer) → now ≡ e ∷ rest
    → next ≡ out ++ answer_text e a → a ≡ answer_to walk conns e → behind ≡ conns_behind tracks walk conns e
    → (next ++ answers_text rest (answers_to tracks walk behind rest) ≡ out ++ answers_text now (answers_to tracks walk conns now))
    × (conns_behind_all tracks walk behind rest ≡ conns_behind_all tracks walk conns now)
turn tracks walk e rest now out next conns behind a parts made answered left = (
  ap (λ (x : List ℕ). x ++ answers_text rest (answers_to tracks walk behind rest)) made
      ∙ append_assoc out (answer_text e a) (answers_text rest (answers_to tracks walk behind rest))
      ∙ ap (λ (b : Answer). out ++ (answer_text e b ++ answers_text rest (answers_to tracks walk behind rest))) answered
      ∙ ap (λ (cs : List Conn). out ++ (answer_text e (answer_to walk conns e) ++ answers_text rest (answers_to tracks walk cs rest))) left
      ∙ ap (λ (es : List Event). out ++ answers_text es (answers_to tracks walk conns es)) (sym parts),
  ap (λ (cs : List Conn). conns_behind_all tracks walk cs rest) left ∙ ap (λ (es : List Event). conns_behind_all tracks walk conns es) (sym parts),
)

-- the text of a run, of the lines of its answers and those of the connections at its end
pub whole : (tracks : Bool) (walk : Packet → Kind → Outcome) (es : List Event) (start lines text : List ℕ) (conns behind : List Conn) → start ≡ [] → conns ≡ []
    → lines ≡ start ++ answers_text es (answers_to tracks walk conns es) → behind ≡ conns_behind_all tracks walk conns es → text ≡ lines ++ conns_text behind
    → text ≡ run_text tracks walk es
whole tracks walk es start lines text conns behind none empty told left made =
    made ∙ ap (λ (x : List ℕ). x ++ conns_text behind) told ∙ ap (λ (cs : List Conn). start ++ answers_text es (answers_to tracks walk conns es) ++ conns_text cs) left
    ∙ ap (λ (x : List ℕ). x ++ answers_text es (answers_to tracks walk conns es) ++ conns_text (conns_behind_all tracks walk conns es)) none
    ∙ ap (λ (cs : List Conn). answers_text es (answers_to tracks walk cs es) ++ conns_text (conns_behind_all tracks walk cs es)) empty

-- where no event is left
pub ended : (tracks : Bool) (walk : Packet → Kind → Outcome) (now : List Event) (out told : List ℕ) (conns last : List Conn) → now ≡ []
    → (out ++ answers_text now (answers_to tracks walk conns now) ≡ told) × (conns_behind_all tracks walk conns now ≡ last) → (out ≡ told) × (conns ≡ last)
ended tracks walk now out told conns last none h = (
  sym (append-nil out) ∙ ap (λ (es : List Event). out ++ answers_text es (answers_to tracks walk conns es)) (sym none) ∙ h.0,
  ap (λ (es : List Event). conns_behind_all tracks walk conns es) (sym none) ∙ h.1,
)

-- what is met at an event and behind it
pub one_more : (site : Site) (t : Tables) (tracks : Bool) (e : Event) (rest now : List Event) (conns behind : List Conn) → now ≡ e ∷ rest → IsMet site conns e
    → behind ≡ conns_behind tracks (outcome_by t) conns e → AreMet site tracks (outcome_by t) behind rest → AreMet site tracks (outcome_by t) conns now
one_more site t tracks e rest now conns behind parts met left later =
    subst (λ (es : List Event). AreMet site tracks (outcome_by t) conns es) (sym parts)
    (met, subst (λ (cs : List Conn). AreMet site tracks (outcome_by t) cs rest) left later)

pub none_more : (site : Site) (t : Tables) (tracks : Bool) (now : List Event) (conns : List Conn) → now ≡ [] → AreMet site tracks (outcome_by t) conns now
none_more site t tracks now conns none = subst (λ (es : List Event). AreMet site tracks (outcome_by t) conns es) (sym none) tt
