-- Tags that are gathered, and their numbers.
use Rattle.std.proofs.Common.{◌≡◌, ℕ, zero, suc, ◌+◌, ◌<◌, ◌≤◌, ◌^◌, Bool, true, false, cond, ◌&&◌, ◌||◌, nat_eq, nat_lt, Option, Some, None, option_and_then, position, get_or, drop, List, [], ◌∷◌, ◌++◌, length, arith, refl, sym, ap, ◌∙◌, subst, append_assoc, drop-cons}
use Rattle.std.proofs.lemmas.Bool.{eq-eqb, false≢true, lt-ltb, le-ltb, and_from}
use Rattle.std.proofs.lemmas.List.Quantifiers.{position-Some}
use Rattle.std.specs.List.{list_any}
use Rattle.fws_pf_print.specs.Printable.{behind_tag}
use Rattle.fws_pf_put.specs.Renumbered.{Gathers, place_in}

-- Places

pub place_found : (tags : List ℕ) (n i : ℕ) → (i < length tags) × (nat_eq n (get_or tags i 0) ≡ true) × ((k : ℕ) → k < i → nat_eq n (get_or tags k 0) ≡ false) → place_in tags n ≡ i
place_found [] n i at = absurd (omega (arith, at.0))
place_found (tag ∷ tags) n zero at = ap (λ b. cond b 0 (suc (place_in tags n))) at.1
place_found (tag ∷ tags) n (suc i) at =
    ap (λ b. cond b 0 (suc (place_in tags n))) (at.2 0 (omega arith))
    ∙ ap suc (place_found tags n i (omega (arith, at.0), at.1, λ k below. at.2 (suc k) (omega (arith, below))))

pub place_is : (tags : List ℕ) (n i : ℕ) → position (nat_eq n) tags ≡ Some i → place_in tags n ≡ i
place_is tags n i at = place_found tags n i (position-Some (nat_eq n) tags i 0 at)

-- a tag that is among some keeps its place where more come behind
there : (tags further : List ℕ) (n : ℕ) → list_any (nat_eq n) tags ≡ true → (place_in (tags ++ further) n < length tags)
there [] further n among = absurd (false≢true among)
there (tag ∷ tags) further n among = by_first (nat_eq n tag) among (there tags further n) where
  by_first : (b : Bool) → (b || list_any (nat_eq n) tags) ≡ true → (list_any (nat_eq n) tags ≡ true → place_in (tags ++ further) n < length tags)
      → cond b 0 (suc (place_in (tags ++ further) n)) < suc (length tags)
  by_first true among later = omega arith
  by_first false among later = let low = later among in omega (arith, low)

-- one that isn't comes behind them
last : (tags further : List ℕ) (n : ℕ) → list_any (nat_eq n) tags ≡ false → place_in (tags ++ n ∷ further) n ≡ length tags
last [] further n among = ap (λ b. cond b 0 (suc (place_in further n))) (eq-eqb n n refl)
last (tag ∷ tags) further n among = by_first (nat_eq n tag) among (last tags further n) where
  by_first : (b : Bool) → (b || list_any (nat_eq n) tags) ≡ false → (list_any (nat_eq n) tags ≡ false → place_in (tags ++ n ∷ further) n ≡ length tags)
      → cond b 0 (suc (place_in (tags ++ n ∷ further) n)) ≡ length (tag ∷ tags)
  by_first true among later = absurd (false≢true (sym among))
  by_first false among later = ap suc (later among)

longer : (tags : List ℕ) (n : ℕ) → length (tags ++ n ∷ []) ≡ suc (length tags)
longer [] n = refl
longer (tag ∷ tags) n = ap suc (longer tags n)

pub nothing_more : (tags : List ℕ) → tags ≡ tags ++ []
nothing_more [] = refl
nothing_more (tag ∷ tags) = ap (λ l. tag ∷ l) (nothing_more tags)

known_tag : (n known : ℕ) → n < known → behind_tag n known ≡ Some known
known_tag n known low = ap (λ b. cond b (Some known) (cond (nat_eq n known && nat_lt n (2 ^ 32)) (Some (suc known)) None)) (lt-ltb n known low)

next_tag : (n : ℕ) → n < 2 ^ 32 → behind_tag n n ≡ Some (suc n)
next_tag n low =
    ap (λ b. cond b (Some n) (cond (nat_eq n n && nat_lt n (2 ^ 32)) (Some (suc n)) None)) (le-ltb n n (omega arith))
    ∙ ap (λ b. cond b (Some (suc n)) None) (and_from (nat_eq n n) (nat_lt n (2 ^ 32)) (eq-eqb n n refl) (lt-ltb n (2 ^ 32) low))

pub tag_gathered : (old new : List ℕ) (tag : ℕ) → length old < 2 ^ 32 → new ≡ cond (list_any (nat_eq tag) old) old (old ++ tag ∷ []) → Gathers old new (λ f known. behind_tag (f tag) known)
tag_gathered old new tag low is = by_among (list_any (nat_eq tag) old) refl (is) where
  by_among : (b : Bool) → list_any (nat_eq tag) old ≡ b → new ≡ cond b old (old ++ tag ∷ []) → Gathers old new (λ f known. behind_tag (f tag) known)
  by_among true among is = record {
    more = [];
    extends = is ∙ nothing_more old;
    counts = λ further.
        subst (λ (l : List ℕ). behind_tag (place_in (l ++ further) tag) (length old) ≡ Some (length l)) (sym is)
        (known_tag (place_in (old ++ further) tag) (length old) (there old further tag among));
  }
  by_among false among is = record {
    more = tag ∷ [];
    extends = is;
    counts = λ further.
        subst (λ (l : List ℕ). behind_tag (place_in (l ++ further) tag) (length old) ≡ Some (length l)) (sym is)
        (ap (λ l. behind_tag (place_in l tag) (length old)) (append_assoc old (tag ∷ []) further)
        ∙ ap (λ n. behind_tag n (length old)) (last old further tag among)
        ∙ next_tag (length old) low
        ∙ ap Some (sym (longer old tag)));
  }

-- Parts

pub nothing_gathered : (tags : List ℕ) (behind : (ℕ → ℕ) → ℕ → Option ℕ) → ((f : ℕ → ℕ) (known : ℕ) → behind f known ≡ Some known) → Gathers tags tags behind
nothing_gathered tags behind same = record { more = []; extends = nothing_more tags; counts = λ further. same (place_in (tags ++ further)) (length tags) }

pub both_gathered : (old mid new : List ℕ) (first second : (ℕ → ℕ) → ℕ → Option ℕ) → Gathers old mid first → Gathers mid new second
    → Gathers old new (λ f known. option_and_then (second f) (first f known))
both_gathered old mid new first second a b = record {
  more = a.more ++ b.more;
  extends = b.extends ∙ ap (λ l. l ++ b.more) a.extends ∙ append_assoc old a.more b.more;
  counts = λ further.
      let all : new ++ further ≡ mid ++ (b.more ++ further) = ap (λ l. l ++ further) b.extends ∙ append_assoc mid b.more further in
      ap (λ o. option_and_then (second (place_in (new ++ further))) o)
      (ap (λ l. first (place_in l) (length old)) all ∙ a.counts (b.more ++ further))
      ∙ b.counts further;
}

-- Lists of parts

-- what was gathered of a whole so far, and what is left of it
pub record GathersSoFar (old now : List ℕ) (whole left : (ℕ → ℕ) → ℕ → Option ℕ) : Type 0 where
  pub more : List ℕ
  pub extends : now ≡ old ++ more
  pub counts : (further : List ℕ) → whole (place_in (now ++ further)) (length old) ≡ left (place_in (now ++ further)) (length now)

pub nothing_so_far : (tags : List ℕ) (whole : (ℕ → ℕ) → ℕ → Option ℕ) → GathersSoFar tags tags whole whole
nothing_so_far tags whole = record { more = []; extends = nothing_more tags; counts = λ further. refl }

-- items of a list, of which each counts ahead of those behind it
module _ {X : Type 0} (all : (ℕ → ℕ) → List X → ℕ → Option ℕ) (each : (ℕ → ℕ) → X → ℕ → Option ℕ) (none : (f : ℕ → ℕ) (known : ℕ) → all f [] known ≡ Some known)
    (first : (f : ℕ → ℕ) (x : X) (xs : List X) (known : ℕ) → all f (x ∷ xs) known ≡ option_and_then (all f xs) (each f x known)) where
  left_over : (xs : List X) (i : ℕ) (x : X) → i < length xs → x ≡ get_or xs i x → drop i xs ≡ x ∷ drop (i + 1) xs
  left_over xs i x below is =
      let next : suc i ≡ i + 1 = omega arith in
      drop-cons xs i x below ∙ ap (λ y. y ∷ drop (suc i) xs) (sym is) ∙ ap (λ n. x ∷ drop n xs) next

  pub one_more : (old mid new : List ℕ) (xs : List X) (i : ℕ) (x : X) → i < length xs → x ≡ get_or xs i x
      → GathersSoFar old mid (λ f known. all f xs known) (λ f known. all f (drop i xs) known) → Gathers mid new (λ f known. each f x known)
      → GathersSoFar old new (λ f known. all f xs known) (λ f known. all f (drop (i + 1) xs) known)
  one_more old mid new xs i x below is so_far a = record {
    more = so_far.more ++ a.more;
    extends = a.extends ∙ ap (λ l. l ++ a.more) so_far.extends ∙ append_assoc old so_far.more a.more;
    counts = λ further.
        let all_of : new ++ further ≡ mid ++ (a.more ++ further) = ap (λ l. l ++ further) a.extends ∙ append_assoc mid a.more further in
        ap (λ l. all (place_in l) xs (length old)) all_of
        ∙ so_far.counts (a.more ++ further)
        ∙ ap (λ l. all (place_in l) (drop i xs) (length mid)) (sym all_of)
        ∙ ap (λ ys. all (place_in (new ++ further)) ys (length mid)) (left_over xs i x below is)
        ∙ first (place_in (new ++ further)) x (drop (i + 1) xs) (length mid)
        ∙ ap (λ o. option_and_then (all (place_in (new ++ further)) (drop (i + 1) xs)) o) (a.counts further);
  }

  none_left : (xs : List X) (i : ℕ) → length xs ≤ i → drop i xs ≡ []
  none_left [] zero past = refl
  none_left [] (suc i) past = refl
  none_left (x ∷ xs) zero past = absurd (omega (arith, past))
  none_left (x ∷ xs) (suc i) past = none_left xs i (omega (arith, past))

  pub all_gathered : (old now : List ℕ) (xs : List X) (i : ℕ) → length xs ≤ i
      → GathersSoFar old now (λ f known. all f xs known) (λ f known. all f (drop i xs) known) → Gathers old now (λ f known. all f xs known)
  all_gathered old now xs i past so_far = record {
    more = so_far.more;
    extends = so_far.extends;
    counts = λ further.
        so_far.counts further
        ∙ ap (λ ys. all (place_in (now ++ further)) ys (length now)) (none_left xs i past)
        ∙ none (place_in (now ++ further)) (length now);
  }
