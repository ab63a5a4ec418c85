-- The two halves of the rules walk as ipfw's rules do.
use Rattle.std.proofs.Common.{◌≡◌, ℕ, zero, suc, ◌+◌, ◌≤◌, Bool, true, false, cond, ◌&&◌, ◌||◌, not, nat_lt, List, [], ◌∷◌, ◌++◌, length, take, drop, get_or, arith, refl, sym, ap, ◌∙◌, subst, length-append}
use Rattle.std.proofs.lemmas.Bool.{false≢true, le-ltb, cond-true, cond-false}
use Rattle.std.specs.List.{list_all, list_any}
use Rattle.fws_net.specs.declared.connection.Kind.{Kind}
use Rattle.fws_net.specs.declared.site.Site.{Site}
use Rattle.fws_net.specs.declared.transit.Transit.{Transit}
use Rattle.fws_net.specs.Conditions.{holds}
use Rattle.fws_net.specs.Connections.{is_est}
use Rattle.fws_ifcl.specs.declared.diagram.Act.TheVariants as rules
use Rattle.fws_ifcl.specs.declared.diagram.Rule.{Rule}
use Rattle.fws_ifcl.specs.declared.step.ChainEnd.TheVariants.{Accepted, Dropped}
use Rattle.fws_ifcl_rules.specs.Rules.{always}
use Rattle.fws_ifcl_rules.specs.UsedPlaces.{untold}
use Rattle.fws_ipfw.specs.declared.config.IpfwAct.{IpfwAct}
use Rattle.fws_ipfw.specs.declared.config.IpfwAct.TheVariants as acts
use Rattle.fws_ipfw.specs.declared.config.IpfwRule.{IpfwRule}
use Rattle.fws_ipfw.specs.declared.config.IpfwConfig.{IpfwConfig}
use Rattle.fws_ipfw.specs.declared.config.IpfwNat.{IpfwNat}
use Rattle.fws_ipfw.specs.declared.pass.Pass.{Pass}
use Rattle.fws_ipfw.specs.Soundness.{nat_fits}
use Rattle.fws_ipfw.specs.Walk.{view_on, tracked_on, ended, tagged, behind as behind_nat, step_of}
use Rattle.fws_ipfw_ifcl.specs.Blocks.{block, width, widths, place_from, skipping_to, place_behind, blocks}
use Rattle.fws_ipfw_ifcl.specs.Diagram.{translates, goes_on, second_width, second_place, ending_place, ending, half, second_half, all_rules}
use Rattle.fws_ipfw_ifcl.specs.Placed.{nothing_beside, first_beside}
use Rattle.fws_ipfw_ifcl.proofs.Courses.{Course, noting, headed, run, Stands, Heads, walked, parted}
use Rattle.fws_ipfw_ifcl.proofs.Lengths.{block_length, blocks_length}
use Rattle.fws_ipfw_ifcl.proofs.Acting.{in_half, ahead, EndsAt, SkipsTo, TranslatesTo, Suits, none_suit, earlier, met, block_walk}

-- Places

-- every rule has a number that is at least 0
pub place_zero : (nats : List IpfwNat) (translated : Bool) (at : ℕ) (rs : List IpfwRule) → place_from nats translated at rs 0 ≡ at
place_zero nats translated at [] = refl
place_zero nats translated at (r ∷ rs) =
    let none : nat_lt r.number 0 ≡ false = le-ltb r.number 0 (omega arith) in
    cond-false (nat_lt r.number 0) _ _ none

-- a place by a test, from below
placed : (b : Bool) (at x : ℕ) → at ≤ x → at ≤ cond b x at
placed true at x le = le
placed false at x le = omega arith

-- no rule stands ahead of the first one
pub place_later : (nats : List IpfwNat) (translated : Bool) (at : ℕ) (rs : List IpfwRule) (n : ℕ) → at ≤ place_from nats translated at rs n
place_later nats translated at [] n = omega arith
place_later nats translated at (r ∷ rs) n =
    let next = at + width nats translated r in
    let far : next ≤ place_from nats translated next rs n = place_later nats translated next rs n in
    placed (nat_lt r.number n) at (place_from nats translated next rs n) (omega (arith, far))

-- A half

-- each rule has numbers: none at a rule at which packets of connections pass
abbrev pub Heard : List IpfwRule → List (List ℕ) → Type 0
Heard [] numbers = Unit {0}
Heard (r ∷ rs) numbers = ((r.keep ≡ true → get_or numbers 0 [] ≡ []) × Suits r.act (get_or numbers 0 [])) × Heard rs (drop 1 numbers)

-- no rule has any
pub none_heard : (rs : List IpfwRule) → Heard rs []
none_heard [] = tt
none_heard (r ∷ rs) = ((λ keeps. refl, none_suit r.act), none_heard rs)

-- these numbers beside the rules to which the rules are unfolded
abbrev pub half_beside : List IpfwNat → Bool → List IpfwRule → List (List ℕ) → List (List ℕ)
half_beside nats translated [] numbers = []
half_beside nats translated (r ∷ rs) numbers = first_beside (get_or numbers 0 []) (width nats translated r) ++ half_beside nats translated rs (drop 1 numbers)

nothing_many : (n : ℕ) → length (nothing_beside n) ≡ n
nothing_many zero = refl
nothing_many (suc n) = ap suc (nothing_many n)

pub first_many : (numbers : List ℕ) (n : ℕ) → length (first_beside numbers n) ≡ n
first_many numbers zero = refl
first_many numbers (suc n) = ap suc (nothing_many n)

pub nothing_untold : (rules : List Rule) → nothing_beside (length rules) ≡ untold rules
nothing_untold [] = refl
nothing_untold (r ∷ rs) = ap (λ l. [] ∷ l) (nothing_untold rs)

first_headed : (numbers : List ℕ) (rules : List Rule) → first_beside numbers (length rules) ≡ headed numbers rules
first_headed numbers [] = refl
first_headed numbers (r ∷ rs) = ap (λ l. numbers ∷ l) (nothing_untold rs)

pub half_many : (nats : List IpfwNat) (translated : Bool) (rs : List IpfwRule) (numbers : List (List ℕ)) → length (half_beside nats translated rs numbers) ≡ widths nats translated rs
half_many nats translated [] numbers = refl
half_many nats translated (r ∷ rs) numbers =
    let here = first_beside (get_or numbers 0 []) (width nats translated r) in
    let more = half_beside nats translated rs (drop 1 numbers) in
    let all : length (here ++ more) ≡ length here + length more = length-append here more in
    let first : length here ≡ width nats translated r = first_many (get_or numbers 0 []) (width nats translated r) in
    let rest : length more ≡ widths nats translated rs = half_many nats translated rs (drop 1 numbers) in
    omega (arith, all, first, rest)

-- what is kept of a pass through rules with numbers; those with a number below `to` are passed over
abbrev pub pass_by : {X : Type 0} {k : Kind} {outward : Bool} → Course X k outward → IpfwConfig → List IpfwRule → List (List ℕ) → ℕ → Pass → X
pass_by w c [] numbers to m = w.leave Dropped
pass_by {X} {k} {outward} w c (r ∷ rs) numbers to m =
    cond (nat_lt r.number to) (pass_by w c rs (drop 1 numbers) to m)
    (cond (is_est k && r.keep) (w.leave (Accepted (ended k outward m)))
    (cond (holds r.cond (view_on w.site k outward m.transit))
    (noting w.note (get_or numbers 0 []) (ahead w (pass_by w c rs (drop 1 numbers)) (step_of c w.site w.p k outward r.act (record m { transit = tagged r.tag m.transit }))))
    (pass_by w c rs (drop 1 numbers) 0 m)))

-- how a pass goes on behind each translation
abbrev Continues : {X : Type 0} {k : Kind} {outward : Bool} → Course X k outward → IpfwConfig → Bool → ℕ → ℕ → ℕ → List IpfwRule → List (List ℕ) → Type 0
Continues w c translated ends past other [] numbers = Unit {0}
Continues w c translated ends past other (r ∷ rs) numbers =
    TranslatesTo w translated (place_behind w.site.one_pass ends (other + width c.nats true r)) past r.act (pass_by w c rs (drop 1 numbers))
    × Continues w c translated ends past (other + width c.nats true r) rs (drop 1 numbers)

-- where a pass goes on behind a translation lies behind each place ahead of one ahead of it
translating_earlier : {X : Type 0} {k : Kind} {outward : Bool} (w : Course X k outward) (translated : Bool) (done a b : ℕ) (act : IpfwAct) (go : ℕ → Pass → X)
    → TranslatesTo w translated done b act go → a ≤ b → TranslatesTo w translated done a act go
translating_earlier w true done a b (acts.Nat n) go on le = on
translating_earlier w false done a b (acts.Nat n) go (far, on) le = (omega (arith, far, le), on)
translating_earlier w true done a b acts.Allow go on le = tt
translating_earlier w true done a b acts.Deny go on le = tt
translating_earlier w true done a b acts.Count go on le = tt
translating_earlier w true done a b acts.Check go on le = tt
translating_earlier w true done a b (acts.Skip n) go on le = tt
translating_earlier w false done a b acts.Allow go on le = tt
translating_earlier w false done a b acts.Deny go on le = tt
translating_earlier w false done a b acts.Count go on le = tt
translating_earlier w false done a b acts.Check go on le = tt
translating_earlier w false done a b (acts.Skip n) go on le = tt

-- a rule skips to where the walk goes on at its number
skips_from : {X : Type 0} {k : Kind} {outward : Bool} (w : Course X k outward) (nats : List IpfwNat) (translated : Bool) (at : ℕ) (rs : List IpfwRule) (act : IpfwAct) (go : ℕ → Pass → X)
    → ((n : ℕ) (t : Transit) → run w (place_from nats translated at rs n) t ≡ go n (in_half translated t))
    → SkipsTo w translated (skipping_to nats translated at rs act) at act go
skips_from w nats translated at rs (acts.Skip n) go on = (place_later nats translated at rs n, on n)
skips_from w nats translated at rs acts.Allow go on = tt
skips_from w nats translated at rs acts.Deny go on = tt
skips_from w nats translated at rs acts.Count go on = tt
skips_from w nats translated at rs acts.Check go on = tt
skips_from w nats translated at rs (acts.Nat n) go on = tt

-- a walk from a place by a test
placed_walk : {X : Type 0} {k : Kind} {outward : Bool} (w : Course X k outward) (b : Bool) (there here : ℕ) (t : Transit) (x y : X)
    → run w there t ≡ x → run w here t ≡ y → run w (cond b there here) t ≡ cond b x y
placed_walk w true there here t x y first second = first
placed_walk w false there here t x y first second = second

-- the rules of a rule, and those behind them
block_parts : {X : Type 0} {k : Kind} {outward : Bool} (w : Course X k outward) (nats : List IpfwNat) (translated : Bool) (ends done to at next : ℕ) (numbers : List ℕ) (r : IpfwRule)
    (more : List Rule) (beside : List (List ℕ)) → w.Stand at (block nats translated ends done to at r ++ more) (first_beside numbers (width nats translated r) ++ beside)
    → at + width nats translated r ≡ next → Heads w numbers at (block nats translated ends done to at r) × w.Stand next more beside
block_parts w nats translated ends done to at next numbers r more beside s place =
    let here = block nats translated ends done to at r in
    let many : length here ≡ width nats translated r = block_length nats translated ends done to at r in
    let same : first_beside numbers (width nats translated r) ≡ headed numbers here = ap (first_beside numbers) (sym many) ∙ first_headed numbers here in
    let parts = w.apart next here more (first_beside numbers (width nats translated r)) beside s (omega (arith, many, place))
    (first_many numbers (width nats translated r) ∙ sym many) in
    (subst (w.Stand at here) same parts.0, parts.1)

-- the rules of a half, from the first one on whose number is at least n
half_walk : {X : Type 0} (k : Kind) (outward : Bool) (w : Course X k outward) (c : IpfwConfig) → list_all nat_fits c.nats ≡ true → (translated : Bool) (ends past at other : ℕ) (rs : List IpfwRule)
    (numbers : List (List ℕ)) → Heard rs numbers
    → w.Stand at (blocks c.nats w.site.one_pass translated ends at other rs) (half_beside c.nats translated rs numbers)
    → Stands w past (always rules.Drop ∷ []) → at + widths c.nats translated rs ≡ past
    → EndsAt w translated ends past → Continues w c translated ends past other rs numbers
    → (n : ℕ) (t : Transit) → run w (place_from c.nats translated at rs n) t ≡ pass_by w c rs numbers n (in_half translated t)
half_walk k outward w c fits translated ends past at other [] numbers heard s drops wide ending on n t =
    let same : at ≡ past = omega (arith, wide) in
    ap (λ place. run w place t) same ∙ walked w drops (tt, tt) t
half_walk k outward w c fits translated ends past at other (r ∷ rs) numbers heard s drops wide ending on n t =
    let next = at + width c.nats translated r in
    let done = place_behind w.site.one_pass ends (other + width c.nats true r) in
    let to = skipping_to c.nats translated next rs r.act in
    let more = blocks c.nats w.site.one_pass translated ends next (other + width c.nats true r) rs in
    let first = get_or numbers 0 [] in
    let later = drop 1 numbers in
    let go = pass_by w c rs later in
    let parts = block_parts w c.nats translated ends done to at next first r more (half_beside c.nats translated rs later) s refl in
    let left : next + widths c.nats translated rs ≡ past = omega (arith, wide) in
    let before : next ≤ past = omega (arith, left) in
    let behind : (m : ℕ) (u : Transit) → run w (place_from c.nats translated next rs m) u ≡ go m (in_half translated u) =
    half_walk k outward w c fits translated ends past next (other + width c.nats true r) rs later heard.1 parts.1 drops left ending on.1 in
    placed_walk w (nat_lt r.number n) (place_from c.nats translated next rs n) at t (go n (in_half translated t)) (met w c translated first r go t)
    (behind n t)
    (block_walk k outward w c translated ends done to at first r go parts.0 heard.0.0 heard.0.1 (record {
      fits = fits;
      next = λ u. ap (λ place. run w place u) (sym (place_zero c.nats translated next rs)) ∙ behind 0 u;
      ending = earlier w translated ends next past ending before;
      skipping = skips_from w c.nats translated next rs r.act go behind;
      translating = translating_earlier w translated done next past r.act go on.0 before;
    }) t)

-- Behind translations

-- in the second half
second_translates : {X : Type 0} {k : Kind} {outward : Bool} (w : Course X k outward) (done past : ℕ) (act : IpfwAct) (go : ℕ → Pass → X) → w.site.one_pass ≡ false
    → TranslatesTo w true done past act go
second_translates w done past (acts.Nat n) go is = is
second_translates w done past acts.Allow go is = tt
second_translates w done past acts.Deny go is = tt
second_translates w done past acts.Count go is = tt
second_translates w done past acts.Check go is = tt
second_translates w done past (acts.Skip n) go is = tt

-- no rule of the second half translates
second_continues : {X : Type 0} {k : Kind} {outward : Bool} (w : Course X k outward) (c : IpfwConfig) (ends past other : ℕ) (rs : List IpfwRule) (numbers : List (List ℕ))
    → w.site.one_pass ≡ false → Continues w c true ends past other rs numbers
second_continues w c ends past other [] numbers is = tt
second_continues w c ends past other (r ∷ rs) numbers is = (
  second_translates w (place_behind w.site.one_pass ends (other + width c.nats true r)) past r.act (pass_by w c rs (drop 1 numbers)) is,
  second_continues w c ends past (other + width c.nats true r) rs (drop 1 numbers) is,
)

-- in the first half, by where a pass goes on
first_translates : {X : Type 0} {k : Kind} {outward : Bool} (w : Course X k outward) (done past : ℕ) (act : IpfwAct) (go : ℕ → Pass → X)
    → (translates act ≡ true → (past ≤ done) × ((t : Transit) → run w done t ≡ ahead w go (behind_nat w.site.one_pass (in_half true t))))
    → TranslatesTo w false done past act go
first_translates w done past (acts.Nat n) go on = on refl
first_translates w done past acts.Allow go on = tt
first_translates w done past acts.Deny go on = tt
first_translates w done past acts.Count go on = tt
first_translates w done past acts.Check go on = tt
first_translates w done past (acts.Skip n) go on = tt

-- where a pass ends behind a translation
once_continues : {X : Type 0} {k : Kind} {outward : Bool} (w : Course X k outward) (c : IpfwConfig) (ends past other : ℕ) (rs : List IpfwRule) (numbers : List (List ℕ))
    → w.site.one_pass ≡ true → past ≤ ends → ((t : Transit) → run w (ends + 2) t ≡ w.leave (Accepted t)) → Continues w c false ends past other rs numbers
once_continues w c ends past other [] numbers is le at_end = tt
once_continues w c ends past other (r ∷ rs) numbers is le at_end =
    let next = other + width c.nats true r in
    let go = pass_by w c rs (drop 1 numbers) in
    let same : place_behind w.site.one_pass ends next ≡ ends + 2 = ap (λ o. place_behind o ends next) is in (
      first_translates w (place_behind w.site.one_pass ends next) past r.act go
          (λ translating. (
            omega (arith, same, le),
            λ t. ap (λ place. run w place t) same ∙ at_end t ∙ ap (λ o. ahead w go (behind_nat o (in_half true t))) (sym is),
          )),
      once_continues w c ends past next rs (drop 1 numbers) is le at_end,
    )

-- where no rule translates
pub or_parts : (a b : Bool) → (a || b) ≡ false → (a ≡ false) × (b ≡ false)
or_parts true b is = absurd (false≢true (sym is))
or_parts false b is = (refl, is)

-- no rule translates
never_continues : {X : Type 0} {k : Kind} {outward : Bool} (w : Course X k outward) (c : IpfwConfig) (ends past other : ℕ) (rs : List IpfwRule) (numbers : List (List ℕ))
    → list_any (λ (r : IpfwRule). translates r.act) rs ≡ false → Continues w c false ends past other rs numbers
never_continues w c ends past other [] numbers none = tt
never_continues w c ends past other (r ∷ rs) numbers none =
    let both = or_parts (translates r.act) (list_any (λ (r : IpfwRule). translates r.act) rs) none in (
      first_translates w (place_behind w.site.one_pass ends (other + width c.nats true r)) past r.act (pass_by w c rs (drop 1 numbers))
          (λ translating. absurd (false≢true (sym both.0 ∙ translating))),
      never_continues w c ends past (other + width c.nats true r) rs (drop 1 numbers) both.1,
    )

-- where a pass goes on in the second half
twice_continues : {X : Type 0} (k : Kind) (outward : Bool) (w : Course X k outward) (c : IpfwConfig) → list_all nat_fits c.nats ≡ true → (ends past far other : ℕ) (rs : List IpfwRule)
    (numbers : List (List ℕ)) → Heard rs numbers → w.site.one_pass ≡ false
    → w.Stand other (blocks c.nats w.site.one_pass true ends other other rs) (half_beside c.nats true rs numbers)
    → Stands w far (always rules.Drop ∷ []) → other + widths c.nats true rs ≡ far → past ≤ other
    → Continues w c false ends past other rs numbers
twice_continues k outward w c fits ends past far other [] numbers heard is s drops wide le = tt
twice_continues k outward w c fits ends past far other (r ∷ rs) numbers heard is s drops wide le =
    let next = other + width c.nats true r in
    let later = drop 1 numbers in
    let go = pass_by w c rs later in
    let done = place_behind w.site.one_pass ends next in
    let to = skipping_to c.nats true next rs r.act in
    let more = blocks c.nats w.site.one_pass true ends next next rs in
    let rest = (block_parts w c.nats true ends done to other next (get_or numbers 0 []) r more (half_beside c.nats true rs later) s refl).1 in
    let left : next + widths c.nats true rs ≡ far = omega (arith, wide) in
    let same : done ≡ next = ap (λ o. place_behind o ends next) is in (
      first_translates w done past r.act go
          (λ translating. (
            omega (arith, same, le),
            λ t. ap (λ place. run w place t) same
                ∙ ap (λ place. run w place t) (sym (place_zero c.nats true next rs))
                ∙ half_walk k outward w c fits true ends far next next rs later heard.1 rest drops left tt (second_continues w c ends far next rs later is) 0 t
                ∙ ap (λ o. ahead w go (behind_nat o (in_half true t))) (sym is),
          )),
      twice_continues k outward w c fits ends past far next rs later heard.1 is rest drops left (omega (arith, le)),
    )

-- The ends

-- the rules that end a pass
ending_walk : {X : Type 0} (k : Kind) (outward : Bool) (w : Course X k outward) (ends : ℕ) → Stands w ends ending → (t : Transit) → run w ends t ≡ w.leave (Accepted (tracked_on k outward t))
ending_walk k true w ends s t = walked w s (tt, (tt, (tt, tt))) t
ending_walk k false w ends s t = walked w s (tt, (tt, (tt, tt))) t

-- All rules

-- how many rules the second half has
pub second_length : (site : Site) (c : IpfwConfig) (b : Bool) → length (cond b (half site c true) []) ≡ cond b (widths c.nats true c.rules) 0
second_length site c true = blocks_length c.nats site.one_pass true (ending_place site c) (second_place c) (second_place c) c.rules
second_length site c false = refl

-- the numbers beside them
abbrev pub second_beside : Site → IpfwConfig → List (List ℕ) → List (List ℕ)
second_beside site c numbers = cond (goes_on site c) (half_beside c.nats true c.rules numbers) []

pub second_many : (c : IpfwConfig) (numbers : List (List ℕ)) (b : Bool) → length (cond b (half_beside c.nats true c.rules numbers) []) ≡ cond b (widths c.nats true c.rules) 0
second_many c numbers true = half_many c.nats true c.rules numbers
second_many c numbers false = refl

-- and beside all rules
abbrev pub all_beside : Site → IpfwConfig → List (List ℕ) → List (List ℕ)
all_beside site c numbers = half_beside c.nats false c.rules numbers ++ [] ∷ second_beside site c numbers ++ untold (always rules.Drop ∷ ending)

-- how a pass goes on behind translations of the first half
all_continue : {X : Type 0} (k : Kind) (outward : Bool) (w : Course X k outward) (c : IpfwConfig) → list_all nat_fits c.nats ≡ true → (numbers : List (List ℕ)) → Heard c.rules numbers
    → (o any : Bool) → w.site.one_pass ≡ o
    → list_any (λ (r : IpfwRule). translates r.act) c.rules ≡ any → (ends past far : ℕ) → ends ≡ ending_place w.site c
    → w.Stand (second_place c) (second_half w.site c) (second_beside w.site c numbers) → Stands w far (always rules.Drop ∷ []) → second_place c + second_width w.site c ≡ far
    → past ≤ second_place c → second_place c ≤ ends → ((t : Transit) → run w (ends + 2) t ≡ w.leave (Accepted t)) → Continues w c false ends past (second_place c) c.rules numbers
all_continue k outward w c fits numbers heard true any one some ends past far at_ends s drops wide le less at_end =
    once_continues w c ends past (second_place c) c.rules numbers one (omega (arith, le, less)) at_end
all_continue k outward w c fits numbers heard false false one some ends past far at_ends s drops wide le less at_end =
    never_continues w c ends past (second_place c) c.rules numbers some
all_continue k outward w c fits numbers heard false true one some ends past far at_ends s drops wide le less at_end =
    let more : goes_on w.site c ≡ true = ap (λ o. not o && list_any (λ (r : IpfwRule). translates r.act) c.rules) one ∙ some in
    let beside = half_beside c.nats true c.rules numbers in
    let half_stands : w.Stand (second_place c) (half w.site c true) beside =
    subst (λ b. w.Stand (second_place c) (cond b (half w.site c true) []) (cond b beside [])) more s in
    let stand : w.Stand (second_place c) (blocks c.nats w.site.one_pass true ends (second_place c) (second_place c) c.rules) beside =
    subst (λ n. w.Stand (second_place c) (blocks c.nats w.site.one_pass true n (second_place c) (second_place c) c.rules) beside) (sym at_ends) half_stands in
    let full : second_width w.site c ≡ widths c.nats true c.rules = cond-true (goes_on w.site c) (widths c.nats true c.rules) 0 more in
    twice_continues k outward w c fits ends past far (second_place c) c.rules numbers heard one stand drops (omega (arith, wide, full)) le

-- a pass through all rules
pub pass_drawn : {X : Type 0} (k : Kind) (outward : Bool) (w : Course X k outward) (c : IpfwConfig) → list_all nat_fits c.nats ≡ true → (numbers : List (List ℕ)) → Heard c.rules numbers
    → w.Stand 0 (all_rules w.site c) (all_beside w.site c numbers) → (t : Transit) → run w 0 t ≡ pass_by w c c.rules numbers 0 (in_half false t)
pass_drawn k outward w c fits numbers heard whole t =
    let site = w.site in
    let first = half site c false in
    let first_told = half_beside c.nats false c.rules numbers in
    let second = second_half site c in
    let second_told = second_beside site c numbers in
    let drop = always rules.Drop in
    let ends = ending_place site c in
    let past = widths c.nats false c.rules in
    let far = second_place c + second_width site c in
    let long : length first ≡ past = blocks_length c.nats site.one_pass false ends 0 (second_place c) c.rules in
    let wide : length second ≡ second_width site c = second_length site c (goes_on site c) in
    let many : length (first ++ drop ∷ second) ≡ length first + suc (length second) = length-append first (drop ∷ second) in
    let long_told : length first_told ≡ past = half_many c.nats false c.rules numbers in
    let wide_told : length second_told ≡ second_width site c = second_many c numbers (goes_on site c) in
    let many_told : length (first_told ++ [] ∷ second_told) ≡ length first_told + suc (length second_told) = length-append first_told ([] ∷ second_told) in
    let as_many : length (first_told ++ [] ∷ second_told) ≡ length (first ++ drop ∷ second) = omega (arith, long, wide, many, long_told, wide_told, many_told) in
    let first_many : length first_told ≡ length first = omega (arith, long, long_told) in
    let parts = w.apart far (first ++ drop ∷ second) (drop ∷ ending) (first_told ++ [] ∷ second_told) (untold (drop ∷ ending)) whole (omega (arith, long, wide, many)) as_many in
    let front = w.apart past first (drop ∷ second) first_told ([] ∷ second_told) parts.0 (omega (arith, long)) first_many in
    let middle = w.apart (second_place c) (drop ∷ []) second ([] ∷ []) second_told front.1 refl refl in
    let back = parted w ends (drop ∷ []) ending parts.1 (omega arith) in
    let last = parted w (ends + 2) (take 2 ending) (always rules.Accept ∷ []) back.1 refl in
    let on : Continues w c false ends past (second_place c) c.rules numbers =
    all_continue k outward w c fits numbers heard site.one_pass (list_any (λ (r : IpfwRule). translates r.act) c.rules) refl refl ends past far refl middle.1 back.0 refl
    (omega arith) (omega arith) (λ u. walked w last.1 (tt, tt) u) in
    ap (λ place. run w place t) (sym (place_zero c.nats false 0 c.rules))
    ∙ half_walk k outward w c fits false ends past 0 (second_place c) c.rules numbers heard front.0 middle.0 (omega arith)
    (omega arith, ending_walk k outward w ends back.1) on 0 t
