-- The numbers beside the rules of the diagram that tells which rules are used: where they stand, and that they are right.
use Rattle.std.proofs.Common.{◌≡◌, ℕ, zero, suc, ◌+◌, ◌<◌, ◌≤◌, Bool, true, false, cond, ◌&&◌, nat_lt, List, [], ◌∷◌, ◌++◌, length, drop, get_or, arith, refl, sym, ap, ◌∙◌, append_assoc, length-append}
use Rattle.std.proofs.lemmas.Bool.{lt-ltb, and_from}
use Rattle.std.proofs.lemmas.List.{drop_more}
use Rattle.std.proofs.lemmas.List.Folds.{list_all-append}
use Rattle.std.specs.List.{list_all}
use Rattle.fws_net.specs.declared.site.Site.{Site}
use Rattle.fws_ifcl.specs.declared.diagram.Act.TheVariants as rules
use Rattle.fws_ifcl.specs.declared.diagram.Rule.{Rule}
use Rattle.fws_ifcl.specs.declared.diagram.Spot.{Spot}
use Rattle.fws_ifcl.specs.Spots.{are_spots_of}
use Rattle.fws_ifcl_rules.specs.Rules.{always}
use Rattle.fws_ifcl_rules.specs.UsedPlaces.{spots_from, untold, first_told, are_below, TellsOfUses}
use Rattle.fws_ipfw.specs.declared.config.IpfwConfig.{IpfwConfig}
use Rattle.fws_ipfw.specs.declared.config.IpfwNat.{IpfwNat}
use Rattle.fws_ipfw.specs.declared.config.IpfwRule.{IpfwRule}
use Rattle.fws_ipfw_ifcl.specs.Blocks.{width, widths}
use Rattle.fws_ipfw_ifcl.specs.Diagram.{goes_on, second_width, second_place, ending_place, ending, all_rules}
use Rattle.fws_ipfw_ifcl.specs.Placed.{looks_up, counting, counted, with_counts, placed_of, nothing_beside, first_beside, placed_width, half_told, second_told, all_told, spots_of}
use Rattle.fws_ipfw_ifcl.proofs.Counting.{numbers_from}
use Rattle.fws_ipfw_ifcl.proofs.Halves.{half_beside, first_many, half_many, second_beside, second_many, all_beside}
use Rattle.fws_ipfw_ifcl.proofs.Numbered.{all_length}

-- They stand beside the rules to which the rules of the configuration that has rules that count are unfolded

counting_width : (nats : List IpfwNat) (translated : Bool) (r : IpfwRule) → width nats translated (counting r) ≡ 1
counting_width nats true r = refl
counting_width nats false r = refl

no_first : (n : ℕ) → nothing_beside n ≡ first_beside [] n
no_first zero = refl
no_first (suc n) = refl

half_same : (nats : List IpfwNat) (translated : Bool) (n : ℕ) (rs : List IpfwRule) → half_told nats translated n rs ≡ half_beside nats translated (counted rs) (numbers_from n rs)
half_same nats translated n [] = refl
half_same nats translated n (r ∷ rs) =
    ap (λ l. first_beside (n ∷ []) (placed_width nats translated r) ++ l) (half_same nats translated (suc n) rs) ∙ by_look (looks_up r)
  where
    by_look : (b : Bool)
        → first_beside (n ∷ []) (cond b (suc (width nats translated r)) (width nats translated r)) ++ half_beside nats translated (counted rs) (numbers_from (suc n) rs)
        ≡ half_beside nats translated (cond b (counting r ∷ r ∷ counted rs) (r ∷ counted rs)) ((n ∷ []) ∷ cond b ([] ∷ numbers_from (suc n) rs) (numbers_from (suc n) rs))
    by_look true =
        let more = half_beside nats translated (counted rs) (numbers_from (suc n) rs) in
        ap (λ l. (n ∷ []) ∷ (l ++ more)) (no_first (width nats translated r))
        ∙ ap (λ m. first_beside (n ∷ []) m ++ (first_beside [] (width nats translated r) ++ more)) (sym (counting_width nats translated r))
    by_look false = refl

second_same : (site : Site) (c : IpfwConfig) → second_told site c ≡ second_beside site (with_counts c) (numbers_from 0 c.rules)
second_same site c = ap (λ l. cond (goes_on site (with_counts c)) l []) (half_same c.nats true 0 c.rules)

pub all_same : (site : Site) (c : IpfwConfig) → all_told site c ≡ all_beside site (with_counts c) (numbers_from 0 c.rules)
all_same site c =
    let ends = untold (always rules.Drop ∷ ending) in
    ap (λ l. (l ++ [] ∷ second_told site c) ++ ends) (half_same c.nats false 0 c.rules)
    ∙ ap (λ l. (half_beside c.nats false (counted c.rules) (numbers_from 0 c.rules) ++ [] ∷ l) ++ ends) (second_same site c)

-- Right numbers

below_joined : (m : ℕ) (xs ys : List (List ℕ)) → are_below m xs ≡ true → are_below m ys ≡ true → are_below m (xs ++ ys) ≡ true
below_joined m xs ys first second = list_all-append (list_all (λ n. nat_lt n m)) xs ys ∙ and_from (are_below m xs) (are_below m ys) first second

nothing_below : (m n : ℕ) → are_below m (nothing_beside n) ≡ true
nothing_below m zero = refl
nothing_below m (suc n) = nothing_below m n

first_below : (m n wide : ℕ) → n < m → are_below m (first_beside (n ∷ []) wide) ≡ true
first_below m n zero lt = refl
first_below m n (suc wide) lt = and_from (nat_lt n m && true) (are_below m (nothing_beside wide)) (and_from (nat_lt n m) true (lt-ltb n m lt) refl) (nothing_below m wide)

half_below : (nats : List IpfwNat) (translated : Bool) (n m : ℕ) (rs : List IpfwRule) → n + length rs ≤ m → are_below m (half_told nats translated n rs) ≡ true
half_below nats translated n m [] le = refl
half_below nats translated n m (r ∷ rs) le =
    below_joined m (first_beside (n ∷ []) (placed_width nats translated r)) (half_told nats translated (suc n) rs)
    (first_below m n (placed_width nats translated r) (omega (arith, le)))
    (half_below nats translated (suc n) m rs (omega (arith, le)))

all_below : (site : Site) (c : IpfwConfig) → are_below (length c.rules) (all_told site c) ≡ true
all_below site c =
    let m = length c.rules in
    let first = half_told c.nats false 0 c.rules in
    below_joined m (first ++ [] ∷ second_told site c) (untold (always rules.Drop ∷ ending))
    (below_joined m first ([] ∷ second_told site c) (half_below c.nats false 0 m c.rules (omega arith)) (second_below (goes_on site (with_counts c))))
    refl
  where
    second_below : (b : Bool) → are_below (length c.rules) ([] ∷ cond b (half_told c.nats true 0 c.rules) []) ≡ true
    second_below true = half_below c.nats true 0 (length c.rules) c.rules (omega arith)
    second_below false = refl

-- As many as rules

all_many : (site : Site) (c : IpfwConfig) (numbers : List (List ℕ)) → length (all_beside site c numbers) ≡ length (all_rules site c)
all_many site c numbers =
    let first = half_beside c.nats false c.rules numbers in
    let second = second_beside site c numbers in
    let ends = untold (always rules.Drop ∷ ending) in
    let long : length first ≡ widths c.nats false c.rules = half_many c.nats false c.rules numbers in
    let wide : length second ≡ second_width site c = second_many c numbers (goes_on site c) in
    let front : length (first ++ [] ∷ second) ≡ length first + suc (length second) = length-append first ([] ∷ second) in
    let all : length (all_beside site c numbers) ≡ length (first ++ [] ∷ second) + 4 = length-append (first ++ [] ∷ second) ends in
    let rules_all : length (all_rules site c) ≡ ending_place site c + 3 = all_length site c in
    omega (arith, long, wide, front, all, rules_all)

-- any rules, so many
abbrev some_rules : ℕ → List Rule
some_rules zero = []
some_rules (suc n) = always rules.Drop ∷ some_rules n

some_many : (n : ℕ) → length (some_rules n) ≡ n
some_many zero = refl
some_many (suc n) = ap suc (some_many n)

none_told : (n : ℕ) → untold (some_rules n) ≡ nothing_beside n
none_told zero = refl
none_told (suc n) = ap (λ l. [] ∷ l) (none_told n)

some_told : (number n : ℕ) → first_told number (some_rules n) ≡ first_beside (number ∷ []) n
some_told number zero = refl
some_told number (suc n) = ap (λ l. (number ∷ []) ∷ l) (none_told n)

module _ (law : TellsOfUses) where
  -- the spots are right
  pub spots_right : (site : Site) (c : IpfwConfig) → are_spots_of (placed_of site c) (length c.rules) (spots_of site c) ≡ true
  spots_right site c =
      let same : length (all_told site c) ≡ length (all_rules site (with_counts c)) = ap length (all_same site c) ∙ all_many site (with_counts c) (numbers_from 0 c.rules) in
      law.right (placed_of site c) (length c.rules) (all_told site c ∷ []) (and_from (are_below (length c.rules) (all_told site c)) true (all_below site c) refl)
      (omega (arith, same), tt)

  -- Numbers are put one behind the other

  -- those of a rule of a half
  pub half_step : (nats : List IpfwNat) (translated : Bool) (rs : List IpfwRule) (k : ℕ) (r : IpfwRule) (at behind n next : ℕ) (old new all : List Spot)
      → k < length rs → r ≡ get_or rs k r → behind ≡ at + placed_width nats translated r → next ≡ n + 1
      → ((block : List Rule) → at + length block ≡ behind → new ≡ old ++ spots_from 0 at (first_told n block))
      → old ++ spots_from 0 at (half_told nats translated n (drop k rs)) ≡ all
      → new ++ spots_from 0 behind (half_told nats translated next (drop (k + 1) rs)) ≡ all
  half_step nats translated rs k r at behind n next old new all lt item place number put left =
      let wide = placed_width nats translated r in
      let here = first_beside (n ∷ []) wide in
      let rest = drop (k + 1) rs in
      let more = half_told nats translated (suc n) rest in
      let long : length (some_rules wide) ≡ wide = some_many wide in
      let many : length here ≡ wide = first_many (n ∷ []) wide in
      let fills : new ≡ old ++ spots_from 0 at here =
      put (some_rules wide) (omega (arith, place, long)) ∙ ap (λ l. old ++ spots_from 0 at l) (some_told n wide) in
      let suc_next : next ≡ suc n = omega (arith, number) in
      let list : drop k rs ≡ r ∷ rest = drop_more rs k r lt ∙ ap (λ x. x ∷ rest) (sym item) in
      ap (λ m. new ++ spots_from 0 behind (half_told nats translated m rest)) suc_next
      ∙ ap (λ l. l ++ spots_from 0 behind more) fills
      ∙ append_assoc old (spots_from 0 at here) (spots_from 0 behind more)
      ∙ ap (λ l. old ++ l) (sym (law.joined 0 at behind here more (omega (arith, place, many))))
      ∙ ap (λ l. old ++ spots_from 0 at (half_told nats translated n l)) (sym list)
      ∙ left

  -- those of the halves
  pub all_spots : (site : Site) (c : IpfwConfig) (begin : ℕ) (a b d : List Spot) → begin ≡ second_place (with_counts c) → a ≡ []
      → b ≡ a ++ spots_from 0 0 (half_told c.nats false 0 c.rules)
      → d ≡ b ++ spots_from 0 begin (second_told site c)
      → d ≡ spots_of site c
  all_spots site c begin a b d place none first second =
      let one = half_told c.nats false 0 c.rules in
      let two = second_told site c in
      let past = length one in
      let long : length one ≡ widths c.nats false (counted c.rules) = ap length (half_same c.nats false 0 c.rules) ∙ half_many c.nats false (counted c.rules) (numbers_from 0 c.rules) in
      let here : begin ≡ past + 1 = omega (arith, place, long) in
      let ends = always rules.Drop ∷ ending in
      let all : length (one ++ [] ∷ two) ≡ length one + suc (length two) = length-append one ([] ∷ two) in
      second ∙ ap (λ l. l ++ spots_from 0 begin two) (first ∙ ap (λ l. l ++ spots_from 0 0 one) none)
      ∙ ap (λ n. spots_from 0 0 one ++ spots_from 0 n two) here
      ∙ ap (λ n. spots_from 0 0 one ++ spots_from 0 n two) (plus_one past)
      ∙ sym (law.joined 0 0 past one ([] ∷ two) (none_ahead past))
      ∙ sym (append_nothing (spots_from 0 0 (one ++ [] ∷ two)))
      ∙ ap (λ l. spots_from 0 0 (one ++ [] ∷ two) ++ l) (sym (law.no_spots 0 (length (one ++ [] ∷ two)) ends))
      ∙ sym (law.joined 0 0 (length (one ++ [] ∷ two)) (one ++ [] ∷ two) (untold ends) (none_ahead (length (one ++ [] ∷ two))))
      ∙ sym (append_nothing (spots_from 0 0 (all_told site c)))
    where
      append_nothing : {X : Type 0} (xs : List X) → xs ++ [] ≡ xs
      append_nothing [] = refl
      append_nothing (x ∷ xs) = ap (λ l. x ∷ l) (append_nothing xs)

      none_ahead : (n : ℕ) → 0 + n ≡ n
      none_ahead n = omega arith

      plus_one : (n : ℕ) → n + 1 ≡ suc n
      plus_one n = omega arith
