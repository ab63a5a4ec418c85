-- What a search in breadth finds is what the chain reaches.
use Rattle.std.proofs.Common.{◌≡◌, ℕ, zero, suc, ◌+◌, ◌<◌, ◌≤◌, Bool, true, false, ◌||◌, nat_eq, List, [], ◌∷◌, ◌++◌, length, length-set, length-append, append-nil, append_assoc, map, set, get_or, Contains, arith, refl, sym, ap, ◌∙◌, subst, ⊎_elim, eq-or-lt_of_le, eqb-true, eq-eqb}
use Rattle.std.specs.List.{list_any, IsDistinct}
use Rattle.std.proofs.lemmas.Bool.{false≢true, or_cases, or_left, or_right, false_from_ne_true}
use Rattle.std.proofs.lemmas.List.Folds.{list_any-append}
use Rattle.std.proofs.lemmas.Cmp.{nat_eq_equiv}
use Rattle.std.proofs.lemmas.List.{length-map}
use Rattle.std.proofs.Math.Dec.{eqb-suc-suc}
use Rattle.std.proofs.lemmas.Map.Keys.{IsDistinct-push}
use Rattle.std.proofs.lemmas.Map.Steps.{length-le_from_distinct_below}
use Rattle.fws_ifcl.specs.declared.diagram.Chain.{Chain}
use Rattle.fws_ifcl.specs.Loops.{Reaches, names, names_first, LoopsAreFound, LoopsAreReal}
use Rattle.fws_ifcl.specs.Refusals.{named_in, is_looped}
use Rattle.fws_unfold.specs.declared.calls.Shape.{Shape}
use Rattle.fws_unfold.specs.Calls.{shape_of}
use Rattle.fws_unfold.specs.Finding.{Found, AllReached, AllFound, ClosedTo, Grows}
use Rattle.fws_unfold.specs.Levels.{flag_at}

-- Lists

in_more : (xs ys : List ℕ) (d : ℕ) → list_any (nat_eq d) xs ≡ true → list_any (nat_eq d) (xs ++ ys) ≡ true
in_more xs ys d on = list_any-append (nat_eq d) xs ys ∙ or_left (list_any (nat_eq d) xs) (list_any (nat_eq d) ys) on

in_last : (xs : List ℕ) (d : ℕ) → list_any (nat_eq d) (xs ++ d ∷ []) ≡ true
in_last xs d =
    list_any-append (nat_eq d) xs (d ∷ [])
    ∙ or_right (list_any (nat_eq d) xs) (list_any (nat_eq d) (d ∷ [])) (or_left (nat_eq d d) false (eq-eqb d d refl))

flag-set_other : (seen : List Bool) (d e : ℕ) → nat_eq e d ≡ false → flag_at (set seen d true) e ≡ flag_at seen e
flag-set_other [] d e ne = refl
flag-set_other (s ∷ seen) zero zero ne = absurd (false≢true (sym ne))
flag-set_other (s ∷ seen) zero (suc e) ne = refl
flag-set_other (s ∷ seen) (suc d) zero ne = refl
flag-set_other (s ∷ seen) (suc d) (suc e) ne = flag-set_other seen d e (sym (eqb-suc-suc e d) ∙ ne)

flag-set_same : (seen : List Bool) (d : ℕ) → d < length seen → flag_at (set seen d true) d ≡ true
flag-set_same [] d lt = absurd (omega arith)
flag-set_same (s ∷ seen) zero lt = refl
flag-set_same (s ∷ seen) (suc d) lt = flag-set_same seen d (omega arith)

place_of : (xs : List ℕ) (d : ℕ) → list_any (nat_eq d) xs ≡ true → (k : ℕ) × (k < length xs) × (get_or xs k 0 ≡ d)
place_of [] d on = absurd (false≢true on)
place_of (x ∷ xs) d on =
    ⊎_elim
    (λ here. let first : 0 < length (x ∷ xs) = omega arith in (0, first, sym (eqb-true d x here)))
    (λ more. let found = place_of xs d more in let lt : suc found.0 < length (x ∷ xs) = let less : found.0 < length xs = found.1 in omega arith in (suc found.0, lt, found.2))
    (or_cases (nat_eq d x) (list_any (nat_eq d) xs) on)

-- A chain more

same_by : (there : Bool) (seen : List Bool) (queue : List ℕ) (d e : ℕ) → nat_eq e d ≡ there → d < length seen → flag_at seen e ≡ list_any (nat_eq e) queue
    → flag_at (set seen d true) e ≡ list_any (nat_eq e) (queue ++ d ∷ [])
same_by true seen queue d e is lt same =
    let equal : e ≡ d = eqb-true e d is in
    ap (flag_at (set seen d true)) equal ∙ flag-set_same seen d lt ∙ sym (in_last queue d) ∙ sym (ap (λ x. list_any (nat_eq x) (queue ++ d ∷ [])) equal)
same_by false seen queue d e is lt same =
    flag-set_other seen d e is ∙ same
    ∙ sym (list_any-append (nat_eq e) queue (d ∷ [])
    ∙ ap (λ b. list_any (nat_eq e) queue || (b || false)) is
    ∙ or_none (list_any (nat_eq e) queue))
  where
    or_none : (b : Bool) → (b || false) ≡ b
    or_none true = refl
    or_none false = refl

in_longer : (P : ℕ → Type 0) (queue : List ℕ) (d : ℕ) → ((e : ℕ) → list_any (nat_eq e) queue ≡ true → P e) → P d
    → (e : ℕ) → list_any (nat_eq e) (queue ++ d ∷ []) ≡ true → P e
in_longer P queue d before last e on =
    ⊎_elim (before e)
    (λ end. ⊎_elim (λ same. subst P (sym (eqb-true e d same)) last) (λ none. absurd (false≢true none)) (or_cases (nat_eq e d) false end))
    (or_cases (list_any (nat_eq e) queue) (list_any (nat_eq e) (d ∷ [])) (sym (list_any-append (nat_eq e) queue (d ∷ [])) ∙ on))

pub found_more : (chains : List Chain) (c : ℕ) (seen : List Bool) (queue : List ℕ) (d : ℕ) → Found chains c seen queue → d < length chains → Reaches chains c d
    → flag_at seen d ≡ false → Found chains c (set seen d true) (queue ++ d ∷ [])
found_more chains c seen queue d found lt reached new =
    let within : d < length seen = let sized : length seen ≡ length chains = found.sized in omega arith in
    record {
      sized = length-set seen d true ∙ found.sized;
      same = λ e. same_by (nat_eq e d) seen queue d e refl within (found.same e);
      distinct = IsDistinct-push nat_eq_equiv queue d found.distinct (sym (found.same d) ∙ new);
      below = in_longer (λ e. e < length chains) queue d found.below lt;
      reached = in_longer (λ e. Reaches chains c e) queue d found.reached reached;
    }

-- The names of a chain, one by one

contains_get : (xs : List ℕ) (k : ℕ) → k < length xs → Contains xs (get_or xs k 0)
contains_get [] k lt = absurd (omega arith)
contains_get (x ∷ xs) zero lt = (zero, lt, refl)
contains_get (x ∷ xs) (suc k) lt =
    let more = contains_get xs k (omega arith) in
    let less : more.0 < length xs = more.1 in
    let longer : suc more.0 < length (x ∷ xs) = omega arith in
    (suc more.0, longer, more.2)

get_of_contains : (xs : List ℕ) (d : ℕ) → Contains xs d → (k : ℕ) × (k < length xs) × (get_or xs k 0 ≡ d)
get_of_contains [] d on = let lt : on.0 < 0 = on.1 in absurd (omega arith)
get_of_contains (x ∷ xs) d (zero, lt, is) = (zero, lt, is)
get_of_contains (x ∷ xs) d (suc k, lt, is) =
    let less : k < length xs = omega arith in
    let more = get_of_contains xs d (k, less, is) in
    let less_still : more.0 < length xs = more.1 in
    let longer : suc more.0 < length (x ∷ xs) = omega arith in
    (suc more.0, longer, more.2)

-- a name of a chain is a chain, and reached
pub name_at : (chains : List Chain) (from k : ℕ) (xs : List ℕ) → xs ≡ named_in chains from → k < length xs → Contains (named_in chains from) (get_or xs k 0)
name_at chains from k xs is lt = subst (λ (ys : List ℕ). Contains ys (get_or xs k 0)) is (contains_get xs k lt)

pub all_names : (chains : List Chain) (from n : ℕ) (xs queue : List ℕ) → xs ≡ named_in chains from → length xs ≤ n
    → ((k : ℕ) → k < n → list_any (nat_eq (get_or xs k 0)) queue ≡ true) → AllFound chains queue from
all_names chains from n xs queue is le there e on =
    let at = get_of_contains xs e (subst (λ (ys : List ℕ). Contains ys e) (sym is) on) in
    let lt : at.0 < n = let less : at.0 < length xs = at.1 in omega arith in
    subst (λ x. list_any (nat_eq x) queue ≡ true) at.2 (there at.0 lt)

-- Queues that grow

pub grows_same : (queue : List ℕ) → Grows queue queue
grows_same queue = record { more = []; is = sym (append-nil queue) }

pub grows_push : (queue longer : List ℕ) (d : ℕ) → longer ≡ queue ++ d ∷ [] → Grows queue longer
grows_push queue longer d is = record { more = d ∷ []; is = is }

pub grows_on : (xs ys zs : List ℕ) → Grows xs ys → Grows ys zs → Grows xs zs
grows_on xs ys zs g h = record { more = g.more ++ h.more; is = h.is ∙ ap (λ l. l ++ h.more) g.is ∙ append_assoc xs g.more h.more }

pub in_grown : (xs ys : List ℕ) (d : ℕ) → Grows xs ys → list_any (nat_eq d) xs ≡ true → list_any (nat_eq d) ys ≡ true
in_grown xs ys d g on = ap (list_any (nat_eq d)) g.is ∙ in_more xs g.more d on

longer_grown : (xs ys : List ℕ) → Grows xs ys → length xs ≤ length ys
longer_grown xs ys g = let e = ap length g.is ∙ length-append xs g.more in omega arith

-- one chain found
pub find_new : (chains : List Chain) (c : ℕ) (seen new : List Bool) (queue longer : List ℕ) (d : ℕ) → Found chains c seen queue → d < length chains → Reaches chains c d
    → flag_at seen d ≡ false → new ≡ set seen d true → longer ≡ queue ++ d ∷ [] → Found chains c new longer
find_new chains c seen new queue longer d found lt reached off is_new is_longer =
    subst (λ (s : List Bool). Found chains c s longer) (sym is_new)
    (subst (λ (q : List ℕ). Found chains c (set seen d true) q) (sym is_longer) (found_more chains c seen queue d found lt reached off))

pub new_there : (queue longer : List ℕ) (d : ℕ) → longer ≡ queue ++ d ∷ [] → list_any (nat_eq d) longer ≡ true
new_there queue longer d is = ap (list_any (nat_eq d)) is ∙ in_last queue d

pub old_there : (chains : List Chain) (c : ℕ) (seen : List Bool) (queue : List ℕ) (d : ℕ) → Found chains c seen queue → flag_at seen d ≡ true → list_any (nat_eq d) queue ≡ true
old_there chains c seen queue d found on = sym (found.same d) ∙ on

-- nothing is found at first
flag_none : (shapes : List Shape) (d : ℕ) → flag_at (map (λ (shape : Shape). false) shapes) d ≡ false
flag_none [] d = refl
flag_none (x ∷ xs) zero = refl
flag_none (x ∷ xs) (suc d) = flag_none xs d

pub nothing_found : (chains : List Chain) (shapes : List Shape) (c : ℕ) (seen : List Bool) (queue : List ℕ) → shapes ≡ map shape_of chains → seen ≡ map (λ (shape : Shape). false) shapes → queue ≡ [] → Found chains c seen queue
unfolding IsDistinct
nothing_found chains shapes c seen queue are is none =
    let flags : List Bool = map (λ (shape : Shape). false) shapes in
    let made : Found chains c flags [] = record {
      sized = length-map shapes (λ (shape : Shape). false) ∙ ap length are ∙ length-map chains shape_of;
      same = λ d. flag_none shapes d;
      distinct = tt;
      below = λ d on. absurd (false≢true on);
      reached = λ d on. absurd (false≢true on);
    } in
    subst (λ (q : List ℕ). Found chains c seen q) (sym none) (subst (λ (s : List Bool). Found chains c s []) (sym is) made)

reach_on : {chains : List Chain} {a b : ℕ} (c : ℕ) → Reaches chains a b → Contains (named_in chains b) c → Reaches chains a c
reach_on c (names e) last = names_first e (names last)
reach_on c (names_first e r) last = names_first e (reach_on c r last)

pub default_out : (xs : List ℕ) (k x : ℕ) → k < length xs → get_or xs k x ≡ get_or xs k 0
default_out [] k x lt = absurd (omega arith)
default_out (y ∷ xs) zero x lt = refl
default_out (y ∷ xs) (suc k) x lt = default_out xs k x (omega arith)

in_at : (xs : List ℕ) (k : ℕ) → k < length xs → list_any (nat_eq (get_or xs k 0)) xs ≡ true
in_at [] k lt = absurd (omega arith)
in_at (x ∷ xs) zero lt = or_left (nat_eq x x) (list_any (nat_eq x) xs) (eq-eqb x x refl)
in_at (x ∷ xs) (suc k) lt = or_right (nat_eq (get_or xs k 0) x) (list_any (nat_eq (get_or xs k 0)) xs) (in_at xs k (omega arith))

pub reached_behind : (chains : List Chain) (c : ℕ) (seen : List Bool) (queue : List ℕ) (k from : ℕ) → Found chains c seen queue → k < length queue → from ≡ get_or queue k 0
    → AllReached chains c from
reached_behind chains c seen queue k from found lt is e on =
    reach_on e (subst (λ x. Reaches chains c x) (sym is) (found.reached (get_or queue k 0) (in_at queue k lt))) on

-- the chains of the queue are those that chain c reaches, once what they name is found
behind : {chains : List Chain} {a b : ℕ} (queue : List ℕ) → Reaches chains a b
    → ((x : ℕ) → list_any (nat_eq x) queue ≡ true → AllFound chains queue x) → AllFound chains queue a → list_any (nat_eq b) queue ≡ true
behind queue (names {b = b} e) closed first = first b e
behind queue (names_first {b = b} e r) closed first = behind queue r closed (closed b (first b e))

closed_all : (chains : List Chain) (queue : List ℕ) (n : ℕ) → ClosedTo chains queue n → length queue ≤ n
    → (x : ℕ) → list_any (nat_eq x) queue ≡ true → AllFound chains queue x
closed_all chains queue n closed le x on e named =
    let at = place_of queue x on in
    let lt : at.0 < n = let less : at.0 < length queue = at.1 in omega arith in
    closed at.0 lt e (subst (λ y. Contains (named_in chains y) e) (sym at.2) named)

ends_by : (answer : Bool) (found : LoopsAreFound) (real : LoopsAreReal) (chains : List Chain) (c n : ℕ) (seen : List Bool) (queue : List ℕ) → Found chains c seen queue
    → AllFound chains queue c → ClosedTo chains queue n → length queue ≤ n → flag_at seen c ≡ answer → answer ≡ is_looped chains c
ends_by true find real chains c n seen queue found first closed le is = sym (find chains c (found.reached c (sym (found.same c) ∙ is)))
ends_by false find real chains c n seen queue found first closed le is =
    sym (false_from_ne_true (is_looped chains c) (λ looped.
    false≢true (sym is ∙ found.same c ∙ behind queue (real chains c looped) (closed_all chains queue n closed le) first)))

pub search_ends : (find : LoopsAreFound) (real : LoopsAreReal) (chains : List Chain) (c n : ℕ) (seen : List Bool) (queue : List ℕ) → Found chains c seen queue
    → AllFound chains queue c → ClosedTo chains queue n → length queue ≤ n → flag_at seen c ≡ is_looped chains c
search_ends find real chains c n seen queue found first closed le = ends_by (flag_at seen c) find real chains c n seen queue found first closed le refl

pub queue_fits : (chains : List Chain) (c : ℕ) (seen : List Bool) (queue : List ℕ) → Found chains c seen queue → length queue ≤ length chains
queue_fits chains c seen queue found = length-le_from_distinct_below queue (length chains) found.distinct found.below

-- a chain of the queue more, behind which all is found
get_longer : (xs ys : List ℕ) (k : ℕ) → k < length xs → get_or (xs ++ ys) k 0 ≡ get_or xs k 0
get_longer [] ys k lt = absurd (omega arith)
get_longer (x ∷ xs) ys zero lt = refl
get_longer (x ∷ xs) ys (suc k) lt = get_longer xs ys k (omega arith)

pub all_more : (chains : List Chain) (queue longer : List ℕ) (c : ℕ) → Grows queue longer → AllFound chains queue c → AllFound chains longer c
all_more chains queue longer c g all e named = in_grown queue longer e g (all e named)

pub closed_more : (chains : List Chain) (queue longer : List ℕ) (n from : ℕ) → Grows queue longer → ClosedTo chains queue n → n < length queue → from ≡ get_or queue n 0
    → AllFound chains longer from → ClosedTo chains longer (n + 1)
closed_more chains queue longer n from g closed lt is all k less e named =
    let within : k < length queue = omega arith in
    let same_there : get_or longer k 0 ≡ get_or queue k 0 = ap (λ q. get_or q k 0) g.is ∙ get_longer queue g.more k within in
    let named_before : Contains (named_in chains (get_or queue k 0)) e = subst (λ x. Contains (named_in chains x) e) same_there named in
    let le : k ≤ n = omega arith in
    ⊎_elim
    (λ same. all e (subst (λ x. Contains (named_in chains x) e) (sym is) (subst (λ j. Contains (named_in chains (get_or queue j 0)) e) same named_before)))
    (λ before. in_grown queue longer e g (closed k before e named_before))
    (eq-or-lt_of_le le)

pub longer_more : (queue longer : List ℕ) (n : ℕ) → Grows queue longer → n < length queue → n + 1 ≤ length longer
longer_more queue longer n g lt = let le = longer_grown queue longer g in omega arith
