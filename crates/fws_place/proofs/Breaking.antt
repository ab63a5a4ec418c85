-- Breaches and clauses.
use Rattle.std.proofs.Common.{◌≡◌, ℕ, suc, ◌+◌, ◌<◌, Option, Some, None, refl, List, [], ◌∷◌, ◌++◌, sym, ◌∙◌, ap, subst, arith, length, get_or, take, drop, append_assoc, All}
use Rattle.std.proofs.lemmas.List.{take_more, take-append-drop}
use Rattle.std.proofs.lemmas.List.Elements.{All-head, All-more}
use Rattle.fws_net.specs.declared.packet.Lang.{Lang}
use Rattle.fws_net.specs.declared.site.Site.{Site}
use Rattle.fws_tree.specs.declared.tables.Tables.{Tables}
use Rattle.fws_place.specs.declared.breach.Breach.{Breach}
use Rattle.fws_place.specs.declared.breach.Pair.{Pair}
use Rattle.fws_place.specs.declared.clause.Clause.{Clause}
use Rattle.fws_place.specs.Clauses.{Breaks}
use Rattle.fws_place.specs.FitLaws.{BreachesRefuteFits}
use Rattle.fws_place.specs.Fits.{clauses_of, IsBreach, Meets}
use Rattle.fws_place.specs.Found.{IsSought}

-- what holds of each item of a list holds of the one behind the front
at_seam : {X : Type 0} (P : X → Type 0) (front back : List X) (x : X) → All P (front ++ x ∷ back) → P x
at_seam P [] back x all = All-head P x back all
at_seam P (y ∷ front) back x all = at_seam P front back x (λ k d lt. all (suc k) d (omega arith))

pub breach_refutes : BreachesRefuteFits
breach_refutes target site tables b breach fits =
    at_seam (Meets site tables) breach.front breach.back b.clause (subst (λ cs. All (Meets site tables) cs) breach.clauses fits) b.first b.second breach.broken

-- the clause at a place is the first that isn't met
pub breach_at : (target : Lang) (site : Site) (tables : Tables) (clauses : List Clause) (at : ℕ) (d : Clause) (first : Pair) (second : Option Pair) (b : Breach)
    → clauses ≡ clauses_of target → at < length clauses → All (Meets site tables) (take at (clauses_of target)) → Breaks site tables (get_or clauses at d) first second
    → record { clause = get_or clauses at d; first = first; second = second } ≡ b → IsBreach target site tables b
breach_at target site tables clauses at d first second b e lt met breaks same =
    subst (IsBreach target site tables) same (record {
      front = take at clauses;
      back = drop (at + 1) clauses;
      clauses = sym e ∙ sym (take-append-drop (at + 1) clauses) ∙ ap (λ l. l ++ drop (at + 1) clauses) (take_more clauses at d lt)
          ∙ append_assoc (take at clauses) (get_or clauses at d ∷ []) (drop (at + 1) clauses);
      met = subst (λ l. All (Meets site tables) (take at l)) (sym e) met;
      broken = breaks;
    })

-- with the clause at a place, of which nothing was found that breaks it, one more is met
pub met_more : (target : Lang) (site : Site) (tables : Tables) (clauses : List Clause) (at : ℕ) (d : Clause) (found : Option (Pair × Option Pair))
    → clauses ≡ clauses_of target → at < length clauses → All (Meets site tables) (take at (clauses_of target)) → IsSought site tables (get_or clauses at d) found
    → ((x : Pair × Option Pair) → found ≡ Some x → ⊥) → All (Meets site tables) (take (at + 1) (clauses_of target))
met_more target site tables clauses at d None e lt met sought none =
    subst (λ l. All (Meets site tables) (take (at + 1) l)) e
    (All-more (Meets site tables) clauses at d lt (subst (λ l. All (Meets site tables) (take at l)) (sym e) met) sought)
met_more target site tables clauses at d (Some x) e lt met sought none = absurd (none x refl)
