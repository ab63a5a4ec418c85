-- The rules of a rule do what the rule does.
use Rattle.std.proofs.Common.{◌≡◌, ℕ, ◌+◌, ◌≤◌, Bool, true, false, cond, ◌&&◌, nat_eq, nat_lt, nat_le, Some, List, [], ◌∷◌, ◌++◌, length, arith, refl, sym, ap, ◌∙◌, subst}
use Rattle.std.proofs.lemmas.Bool.{and_parts, cond_both}
use Rattle.std.specs.List.{list_all}
use Rattle.std.specs.Option.{option_map_or}
use Rattle.fws_net.specs.declared.condition.Lit.{Lit}
use Rattle.fws_net.specs.declared.condition.Test.TheVariants as tests
use Rattle.fws_net.specs.declared.connection.Kind.{Kind}
use Rattle.fws_net.specs.declared.connection.Kind.TheVariants.{New, Est}
use Rattle.fws_net.specs.declared.transit.Transit.{Transit}
use Rattle.fws_net.specs.declared.view.View.{View}
use Rattle.fws_net.specs.Conditions.{holds, lit_holds}
use Rattle.fws_net.specs.Connections.{is_est}
use Rattle.fws_net.specs.Transits.{with_tag, without_tag}
use Rattle.fws_ifcl.specs.declared.diagram.Act.TheVariants as rules
use Rattle.fws_ifcl.specs.declared.diagram.Rule.{Rule}
use Rattle.fws_ifcl.specs.declared.step.ChainEnd.TheVariants.{Accepted, Dropped}
use Rattle.fws_rules.specs.Literals.{positive}
use Rattle.fws_ifcl_rules.specs.Rules.{ruled, always, guard, guarded}
use Rattle.fws_ipfw.specs.declared.config.IpfwAct.{IpfwAct}
use Rattle.fws_ipfw.specs.declared.config.IpfwAct.TheVariants as acts
use Rattle.fws_ipfw.specs.declared.config.IpfwTag.{IpfwTag}
use Rattle.fws_ipfw.specs.declared.config.IpfwTag.TheVariants as tags
use Rattle.fws_ipfw.specs.declared.config.IpfwRule.{IpfwRule}
use Rattle.fws_ipfw.specs.declared.config.IpfwConfig.{IpfwConfig}
use Rattle.fws_ipfw.specs.declared.config.IpfwNat.{IpfwNat}
use Rattle.fws_ipfw.specs.declared.pass.Pass.{Pass}
use Rattle.fws_ipfw.specs.declared.pass.Step.{Step}
use Rattle.fws_ipfw.specs.declared.pass.Step.TheVariants as steps
use Rattle.fws_ipfw.specs.Soundness.{redirect_fits, nat_fits}
use Rattle.fws_ipfw.specs.Walk.{tracked_on, nat_numbered, translated_by, ended, tagged, behind as behind_nat, step_of}
use Rattle.fws_ipfw_ifcl.specs.Translating.{translating, translating_width}
use Rattle.fws_ipfw_ifcl.specs.Blocks.{accepting, acting, acting_width, tagging_first, tagging_width, keeping, keeping_width, block, width}
use Rattle.fws_ipfw_ifcl.proofs.Courses.{Course, noting, headed, sight, run, Stands, Heads, walked, parted, head_parted, no_head, unheaded}
use Rattle.fws_ipfw_ifcl.proofs.Lengths.{translating_length, acting_length}
use Rattle.fws_ipfw_ifcl.proofs.Choosing.{NatFits, translating_walk}

-- a packet in a half
abbrev pub in_half : Bool → Transit → Pass
in_half translated t = record { transit = t; translated = translated }

-- what is kept behind a rule, where go keeps of the rules behind it by their least number
abbrev pub ahead : {X : Type 0} {k : Kind} {outward : Bool} → Course X k outward → (ℕ → Pass → X) → Step → X
ahead w go (steps.Accepted t) = w.leave (Accepted t)
ahead w go steps.Dropped = w.leave Dropped
ahead w go (steps.Onwards to m) = go to m

-- where a pass ends accepted in the first half, behind rules that come to the place past
abbrev pub EndsAt : {X : Type 0} {k : Kind} {outward : Bool} → Course X k outward → Bool → ℕ → ℕ → Type 0
EndsAt w true ends past = Unit {0}
EndsAt {X} {k} {outward} w false ends past = (past ≤ ends) × ((t : Transit) → run w ends t ≡ w.leave (Accepted (tracked_on k outward t)))

-- where a rule skips to
abbrev pub SkipsTo : {X : Type 0} {k : Kind} {outward : Bool} → Course X k outward → Bool → ℕ → ℕ → IpfwAct → (ℕ → Pass → X) → Type 0
SkipsTo w translated to past (acts.Skip n) go = (past ≤ to) × ((t : Transit) → run w to t ≡ go n (in_half translated t))
SkipsTo w translated to past _ go = Unit {0}

-- where a pass goes on behind a translation
abbrev pub TranslatesTo : {X : Type 0} {k : Kind} {outward : Bool} → Course X k outward → Bool → ℕ → ℕ → IpfwAct → (ℕ → Pass → X) → Type 0
TranslatesTo w false done past (acts.Nat n) go = (past ≤ done) × ((t : Transit) → run w done t ≡ ahead w go (behind_nat w.site.one_pass (in_half true t)))
TranslatesTo w true done past (acts.Nat n) go = w.site.one_pass ≡ false
TranslatesTo w translated done past _ go = Unit {0}

-- how a pass goes on behind a rule, of which the rules come to the place past
pub record Leads {X : Type 0} {k : Kind} {outward : Bool} (w : Course X k outward) (nats : List IpfwNat) (translated : Bool) (ends done to past : ℕ) (act : IpfwAct) (go : ℕ → Pass → X) : Type 0 where
  pub fits : list_all nat_fits nats ≡ true
  pub next : (t : Transit) → run w past t ≡ go 0 (in_half translated t)
  pub ending : EndsAt w translated ends past
  pub skipping : SkipsTo w translated to past act go
  pub translating : TranslatesTo w translated done past act go

-- beside the rules of a check-state rule there are no numbers
abbrev pub Suits : IpfwAct → List ℕ → Type 0
Suits acts.Check numbers = numbers ≡ []
Suits _ numbers = Unit {0}

-- Small steps

-- the instance with a number fits
numbered_fits : (n : ℕ) (nats : List IpfwNat) → list_all nat_fits nats ≡ true → NatFits (nat_numbered n nats)
numbered_fits n [] fits = tt
numbered_fits n (nat ∷ nats) fits =
    let both = and_parts (nat_fits nat) (list_all nat_fits nats) fits in
    cond_both (nat_eq nat.number n) (Some nat) (nat_numbered n nats) NatFits
    (λ is. (and_parts (nat_lt 0 nat.number && nat_le nat.number 65535) (list_all redirect_fits nat.redirects) both.0).1)
    (λ is. numbered_fits n nats both.1)

-- nothing suits each act
pub none_suit : (act : IpfwAct) → Suits act []
none_suit acts.Allow = tt
none_suit acts.Deny = tt
none_suit acts.Count = tt
none_suit (acts.Skip n) = tt
none_suit acts.Check = refl
none_suit (acts.Nat n) = tt

-- a test of which both branches are the same
alike : {X : Type 0} (b : Bool) (x : X) → x ≡ cond b x x
alike true x = refl
alike false x = refl

-- a condition with a literal more
one_more : (test : List Lit) (lit : Lit) (v : View) → holds (test ++ lit ∷ []) v ≡ (holds test v && lit_holds v lit)
one_more [] lit v = and_true (lit_holds v lit)
  where
    and_true : (b : Bool) → (b && true) ≡ b
    and_true true = refl
    and_true false = refl
one_more (l ∷ ls) lit v = ap (λ b. lit_holds v l && b) (one_more ls lit v) ∙ grouped (lit_holds v l) (holds ls v) (lit_holds v lit)
  where
    grouped : (a b c : Bool) → (a && (b && c)) ≡ ((a && b) && c)
    grouped true b c = refl
    grouped false b c = refl

-- a pass ends accepted
accepting_walk : {X : Type 0} {k : Kind} {outward : Bool} (w : Course X k outward) (translated : Bool) (ends at : ℕ) (numbers : List ℕ) (test : List Lit)
    → Heads w numbers at (ruled test (accepting translated ends) ∷ []) → EndsAt w translated ends (at + 1) → (t : Transit)
    → run w at t ≡ cond (holds test (sight w t)) (noting w.note numbers (w.leave (Accepted (ended k outward (in_half translated t))))) (run w (at + 1) t)
accepting_walk w true ends at numbers test s ending t = w.through numbers (ruled test (accepting true ends) ∷ []) s (tt, tt) t
accepting_walk w false ends at numbers test s (far, at_end) t =
    w.through numbers (ruled test (accepting false ends) ∷ []) s (omega (arith, far), tt) t
    ∙ ap (λ end. cond (holds test (sight w t)) (noting w.note numbers end) (run w (at + 1) t)) (at_end t)

-- Acts

-- a packet of a connection passes at a check-state rule
checking_walk : {X : Type 0} (k : Kind) (outward : Bool) (w : Course X k outward) (c : IpfwConfig) (translated : Bool) (ends at : ℕ) (test : List Lit) (go : ℕ → Pass → X)
    → Heads w [] at (ruled (test ++ positive tests.Est ∷ []) (accepting translated ends) ∷ []) → EndsAt w translated ends (at + 1)
    → ((t : Transit) → run w (at + 1) t ≡ go 0 (in_half translated t)) → (t : Transit)
    → run w at t ≡ cond (holds test (sight w t)) (ahead w go (step_of c w.site w.p k outward acts.Check (in_half translated t))) (run w (at + 1) t)
checking_walk New outward w c translated ends at test go s ending next t =
    let left = w.leave (Accepted (ended New outward (in_half translated t))) in
    accepting_walk w translated ends at [] (test ++ positive tests.Est ∷ []) s ending t
    ∙ ap (λ b. cond b left (run w (at + 1) t)) (one_more test (positive tests.Est) (sight w t) ∙ and_false (holds test (sight w t)))
    ∙ alike (holds test (sight w t)) (run w (at + 1) t)
    ∙ ap (λ end. cond (holds test (sight w t)) end (run w (at + 1) t)) (next t)
  where
    and_false : (b : Bool) → (b && false) ≡ false
    and_false true = refl
    and_false false = refl
checking_walk (Est r) outward w c translated ends at test go s ending next t =
    let left = w.leave (Accepted (ended (Est r) outward (in_half translated t))) in
    accepting_walk w translated ends at [] (test ++ positive tests.Est ∷ []) s ending t
    ∙ ap (λ b. cond b left (run w (at + 1) t)) (one_more test (positive tests.Est) (sight w t) ∙ and_true (holds test (sight w t)))
  where
    and_true : (b : Bool) → (b && true) ≡ b
    and_true true = refl
    and_true false = refl

-- an instance translates in the first half
nat_walk : {X : Type 0} (k : Kind) (outward : Bool) (w : Course X k outward) (c : IpfwConfig) (ends done to at : ℕ) (numbers : List ℕ) (test : List Lit) (n : ℕ) (go : ℕ → Pass → X)
    → Heads w numbers at (acting c.nats false ends done to at test (acts.Nat n)) → NatFits (nat_numbered n c.nats)
    → at + acting_width c.nats false (acts.Nat n) ≤ done → ((t : Transit) → run w done t ≡ ahead w go (behind_nat w.site.one_pass (in_half true t))) → (t : Transit)
    → run w at t
    ≡ cond (holds test (sight w t)) (noting w.note numbers (ahead w go (step_of c w.site w.p k outward (acts.Nat n) (in_half false t)))) (run w (at + acting_width c.nats false (acts.Nat n)) t)
nat_walk k outward w c ends done to at numbers test n go s fits far on t =
    let nat = nat_numbered n c.nats in
    let inner = translating (at + 2) done nat in
    let head = guard at test (length inner) in
    let first = ruled test (rules.Skip (at + 2)) in
    let second = always (rules.Skip (at + (2 + length inner))) ∷ [] in
    let wide : length inner ≡ translating_width nat = translating_length (at + 2) done nat in
    let past : at + (2 + length inner) ≡ at + (2 + translating_width nat) = omega (arith, wide) in
    let parts = head_parted w numbers (at + 2) first second inner s refl in
    w.through numbers head parts.0 (omega arith, (omega arith, tt)) t
    ∙ ap (λ end. cond (holds test (sight w t)) (noting w.note numbers end) (run w (at + (2 + length inner)) t))
    (translating_walk k outward w (at + 2) done nat fits parts.1 (omega (arith, far)) t
    ∙ on (option_map_or (λ m. translated_by w.p k outward m t) nat t))
    ∙ ap (λ m. cond (holds test (sight w t)) (noting w.note numbers (ahead w go (step_of c w.site w.p k outward (acts.Nat n) (in_half false t)))) (run w m t)) past

-- one rule, where the condition holds and where it doesn't
one_walk : {X : Type 0} {k : Kind} {outward : Bool} (w : Course X k outward) (at to : ℕ) (numbers : List ℕ) (test : List Lit)
    → Heads w numbers at (ruled test (rules.Skip to) ∷ []) → at + 1 ≤ to → (t : Transit)
    → run w at t ≡ cond (holds test (sight w t)) (noting w.note numbers (run w to t)) (run w (at + 1) t)
one_walk w at to numbers test s far t = w.through numbers (ruled test (rules.Skip to) ∷ []) s (omega (arith, far), tt) t

-- what is kept of an act, and behind it
abbrev pub done_by : {X : Type 0} {k : Kind} {outward : Bool} → Course X k outward → IpfwConfig → Bool → IpfwAct → (ℕ → Pass → X) → Transit → X
done_by {X} {k} {outward} w c translated act go t = ahead w go (step_of c w.site w.p k outward act (in_half translated t))

-- the rules of an act, where the condition holds and where it doesn't
pub acting_walk : {X : Type 0} (k : Kind) (outward : Bool) (w : Course X k outward) (c : IpfwConfig) (translated : Bool) (ends done to at : ℕ) (numbers : List ℕ) (test : List Lit) (act : IpfwAct)
    (go : ℕ → Pass → X) → Heads w numbers at (acting c.nats translated ends done to at test act) → Suits act numbers
    → Leads w c.nats translated ends done to (at + acting_width c.nats translated act) act go → (t : Transit)
    → run w at t ≡ cond (holds test (sight w t)) (noting w.note numbers (done_by w c translated act go t)) (run w (at + acting_width c.nats translated act) t)
acting_walk k outward w c true ends done to at numbers test acts.Allow go s suits leads t = accepting_walk w true ends at numbers test s leads.ending t
acting_walk k outward w c false ends done to at numbers test acts.Allow go s suits leads t = accepting_walk w false ends at numbers test s leads.ending t
acting_walk k outward w c true ends done to at numbers test acts.Deny go s suits leads t = w.through numbers (ruled test rules.Drop ∷ []) s (tt, tt) t
acting_walk k outward w c false ends done to at numbers test acts.Deny go s suits leads t = w.through numbers (ruled test rules.Drop ∷ []) s (tt, tt) t
acting_walk k outward w c true ends done to at numbers test acts.Count go s suits leads t =
    one_walk w at (at + 1) numbers test s (omega arith) t ∙ ap (λ end. cond (holds test (sight w t)) (noting w.note numbers end) (run w (at + 1) t)) (leads.next t)
acting_walk k outward w c false ends done to at numbers test acts.Count go s suits leads t =
    one_walk w at (at + 1) numbers test s (omega arith) t ∙ ap (λ end. cond (holds test (sight w t)) (noting w.note numbers end) (run w (at + 1) t)) (leads.next t)
acting_walk k outward w c true ends done to at numbers test (acts.Skip n) go s suits leads t =
    one_walk w at to numbers test s leads.skipping.0 t ∙ ap (λ end. cond (holds test (sight w t)) (noting w.note numbers end) (run w (at + 1) t)) (leads.skipping.1 t)
acting_walk k outward w c false ends done to at numbers test (acts.Skip n) go s suits leads t =
    one_walk w at to numbers test s leads.skipping.0 t ∙ ap (λ end. cond (holds test (sight w t)) (noting w.note numbers end) (run w (at + 1) t)) (leads.skipping.1 t)
acting_walk k outward w c true ends done to at numbers test acts.Check go s suits leads t =
    let none : numbers ≡ [] = suits in
    checking_walk k outward w c true ends at test go (subst (λ l. Heads w l at (acting c.nats true ends done to at test acts.Check)) none s) leads.ending leads.next t
    ∙ ap (λ l. cond (holds test (sight w t)) (noting w.note l (done_by w c true acts.Check go t)) (run w (at + 1) t)) (sym none)
acting_walk k outward w c false ends done to at numbers test acts.Check go s suits leads t =
    let none : numbers ≡ [] = suits in
    checking_walk k outward w c false ends at test go (subst (λ l. Heads w l at (acting c.nats false ends done to at test acts.Check)) none s) leads.ending leads.next t
    ∙ ap (λ l. cond (holds test (sight w t)) (noting w.note l (done_by w c false acts.Check go t)) (run w (at + 1) t)) (sym none)
acting_walk New outward w c true ends done to at numbers test (acts.Nat n) go s suits leads t =
    one_walk w at (at + 1) numbers test s (omega arith) t
    ∙ ap (λ end. cond (holds test (sight w t)) (noting w.note numbers end) (run w (at + 1) t)) (leads.next t)
    ∙ ap (λ one_pass. cond (holds test (sight w t)) (noting w.note numbers (ahead w go (behind_nat one_pass (in_half true t)))) (run w (at + 1) t)) (sym leads.translating)
acting_walk (Est r) outward w c true ends done to at numbers test (acts.Nat n) go s suits leads t =
    one_walk w at (at + 1) numbers test s (omega arith) t
    ∙ ap (λ end. cond (holds test (sight w t)) (noting w.note numbers end) (run w (at + 1) t)) (leads.next t)
    ∙ ap (λ one_pass. cond (holds test (sight w t)) (noting w.note numbers (ahead w go (behind_nat one_pass (in_half true t)))) (run w (at + 1) t)) (sym leads.translating)
acting_walk k outward w c false ends done to at numbers test (acts.Nat n) go s suits leads t =
    nat_walk k outward w c ends done to at numbers test n go s (numbered_fits n c.nats leads.fits) leads.translating.0 leads.translating.1 t

-- Tags

-- a change where the condition holds, and the act behind it
tagged_walk : {X : Type 0} (k : Kind) (outward : Bool) (w : Course X k outward) (c : IpfwConfig) (translated : Bool) (ends done to at : ℕ) (numbers : List ℕ) (test : List Lit) (act : IpfwAct)
    (change : Rule) (after : Transit → Transit) (go : ℕ → Pass → X)
    → ((at : ℕ) → Stands w at (change ∷ []) → (t : Transit) → run w at t ≡ run w (at + 1) (after t))
    → Heads w numbers at (guarded at test ((change ∷ []) ++ acting c.nats translated ends done to (at + 3) [] act))
    → Leads w c.nats translated ends done to (at + (3 + acting_width c.nats translated act)) act go → (t : Transit)
    → run w at t ≡ cond (holds test (sight w t)) (noting w.note numbers (done_by w c translated act go (after t))) (run w (at + (3 + acting_width c.nats translated act)) t)
tagged_walk k outward w c translated ends done to at numbers test act change after go changes s leads t =
    let more = acting c.nats translated ends done to (at + 3) [] act in
    let inner = change ∷ more in
    let head = guard at test (length inner) in
    let first = ruled test (rules.Skip (at + 2)) in
    let second = always (rules.Skip (at + (2 + length inner))) ∷ [] in
    let many : length more ≡ acting_width c.nats translated act = acting_length c.nats translated ends done to (at + 3) [] act in
    let past : at + (2 + length inner) ≡ at + (3 + acting_width c.nats translated act) = omega (arith, many) in
    let same : at + (3 + acting_width c.nats translated act) ≡ (at + 3) + acting_width c.nats translated act = omega arith in
    let third : (at + 2) + 1 ≡ at + 3 = omega arith in
    let parts = head_parted w numbers (at + 2) first second inner s refl in
    let inside = parted w (at + 3) (change ∷ []) more parts.1 third in
    w.through numbers head parts.0 (omega arith, (omega arith, tt)) t
    ∙ ap (λ end. cond (holds test (sight w t)) (noting w.note numbers end) (run w (at + (2 + length inner)) t))
    (changes (at + 2) inside.0 t
    ∙ ap (λ n. run w n (after t)) third
    ∙ acting_walk k outward w c translated ends done to (at + 3) [] [] act go (no_head w (at + 3) more inside.1) (none_suit act)
    (subst (λ n. Leads w c.nats translated ends done to n act go) same leads) (after t))
    ∙ ap (λ n. cond (holds test (sight w t)) (noting w.note numbers (done_by w c translated act go (after t))) (run w n t)) past

-- a tag, and the act behind it
tagging_walk : {X : Type 0} (k : Kind) (outward : Bool) (w : Course X k outward) (c : IpfwConfig) (translated : Bool) (ends done to at : ℕ) (numbers : List ℕ) (test : List Lit) (act : IpfwAct)
    (tag : IpfwTag) (go : ℕ → Pass → X) → Heads w numbers at (tagging_first c.nats translated ends done to at test act tag) → Suits act numbers
    → Leads w c.nats translated ends done to (at + (tagging_width tag + acting_width c.nats translated act)) act go → (t : Transit)
    → run w at t ≡ cond (holds test (sight w t)) (noting w.note numbers (done_by w c translated act go (tagged tag t))) (run w (at + (tagging_width tag + acting_width c.nats translated act)) t)
tagging_walk k outward w c translated ends done to at numbers test act tags.Nothing go s suits leads t =
    let same : 0 + acting_width c.nats translated act ≡ acting_width c.nats translated act = omega arith in
    acting_walk k outward w c translated ends done to at numbers test act go s suits (subst (λ n. Leads w c.nats translated ends done to (at + n) act go) same leads) t
    ∙ ap (λ n. cond (holds test (sight w t)) (noting w.note numbers (done_by w c translated act go t)) (run w (at + n) t)) (sym same)
tagging_walk k outward w c translated ends done to at numbers test act (tags.Add n) go s suits leads t =
    tagged_walk k outward w c translated ends done to at numbers test act (always (rules.AddTag n)) (with_tag n) go (λ at s t. walked w s (tt, tt) t) s leads t
tagging_walk k outward w c translated ends done to at numbers test act (tags.Remove n) go s suits leads t =
    tagged_walk k outward w c translated ends done to at numbers test act (always (rules.DelTag n)) (without_tag n) go (λ at s t. walked w s (tt, tt) t) s leads t

-- Rules

-- what is kept of a rule with numbers in a half, and behind it
abbrev pub met : {X : Type 0} {k : Kind} {outward : Bool} → Course X k outward → IpfwConfig → Bool → List ℕ → IpfwRule → (ℕ → Pass → X) → Transit → X
met {X} {k} {outward} w c translated numbers r go t =
    cond (is_est k && r.keep) (w.leave (Accepted (ended k outward (in_half translated t))))
    (cond (holds r.cond (sight w t)) (noting w.note numbers (done_by w c translated r.act go (tagged r.tag t))) (go 0 (in_half translated t)))

-- a packet of a connection passes at a rule that keeps state
keeping_walk : {X : Type 0} {k : Kind} {outward : Bool} (w : Course X k outward) (translated : Bool) (ends at : ℕ) (keep : Bool)
    → Stands w at (keeping keep translated ends) → EndsAt w translated ends (at + keeping_width keep) → (t : Transit)
    → run w at t ≡ cond (is_est k && keep) (w.leave (Accepted (ended k outward (in_half translated t)))) (run w (at + keeping_width keep) t)
keeping_walk w translated ends at true s ending t = accepting_walk w translated ends at [] (positive tests.Est ∷ []) s ending t
keeping_walk {X} {k} {outward} w translated ends at false s ending t =
    let same : at ≡ at + 0 = omega arith in
    ap (λ n. run w n t) same ∙ never (is_est k)
  where
    never : (b : Bool) → run w (at + 0) t ≡ cond (b && false) (w.leave (Accepted (ended k outward (in_half translated t)))) (run w (at + 0) t)
    never true = refl
    never false = refl

-- the ends lie behind each place ahead of one ahead of them
pub earlier : {X : Type 0} {k : Kind} {outward : Bool} (w : Course X k outward) (translated : Bool) (ends a b : ℕ) → EndsAt w translated ends b → a ≤ b → EndsAt w translated ends a
earlier w true ends a b ending le = tt
earlier w false ends a b (far, at_end) le = (omega (arith, far, le), at_end)

-- where packets of connections pass no numbers stand, and else they stand behind
kept_parted : {X : Type 0} {k : Kind} {outward : Bool} (w : Course X k outward) (translated : Bool) (ends at : ℕ) (numbers : List ℕ) (keep : Bool) (inner : List Rule)
    → (keep ≡ true → numbers ≡ []) → Heads w numbers at (keeping keep translated ends ++ inner)
    → Stands w at (keeping keep translated ends) × Heads w numbers (at + keeping_width keep) inner
kept_parted w translated ends at numbers true inner none s =
    let first = ruled (positive tests.Est ∷ []) (accepting translated ends) in
    let is : numbers ≡ [] = none refl in
    let parts = parted w (at + 1) (first ∷ []) inner (unheaded w at (first ∷ inner) (subst (λ l. Heads w l at (first ∷ inner)) is s)) refl in
    (parts.0, subst (λ l. Heads w l (at + 1) inner) (sym is) (no_head w (at + 1) inner parts.1))
kept_parted w translated ends at numbers false inner none s = w.apart (at + 0) [] inner [] (headed numbers inner) s refl refl

-- the rules of a rule
pub block_walk : {X : Type 0} (k : Kind) (outward : Bool) (w : Course X k outward) (c : IpfwConfig) (translated : Bool) (ends done to at : ℕ) (numbers : List ℕ) (r : IpfwRule) (go : ℕ → Pass → X)
    → Heads w numbers at (block c.nats translated ends done to at r) → (r.keep ≡ true → numbers ≡ []) → Suits r.act numbers
    → Leads w c.nats translated ends done to (at + width c.nats translated r) r.act go → (t : Transit)
    → run w at t ≡ met w c translated numbers r go t
block_walk k outward w c translated ends done to at numbers r go s none suits leads t =
    let here = at + keeping_width r.keep in
    let inner = tagging_first c.nats translated ends done to here r.cond r.act r.tag in
    let past : at + width c.nats translated r ≡ here + (tagging_width r.tag + acting_width c.nats translated r.act) = omega arith in
    let parts = kept_parted w translated ends at numbers r.keep inner none s in
    let accepted = w.leave (Accepted (ended k outward (in_half translated t))) in
    let met_here = noting w.note numbers (done_by w c translated r.act go (tagged r.tag t)) in
    keeping_walk w translated ends at r.keep parts.0
    (earlier w translated ends here (at + width c.nats translated r) leads.ending (omega arith)) t
    ∙ ap (cond (is_est k && r.keep) accepted)
    (tagging_walk k outward w c translated ends done to here numbers r.cond r.act r.tag go parts.1 suits
    (subst (λ n. Leads w c.nats translated ends done to n r.act go) past leads) t
    ∙ ap (λ n. cond (holds r.cond (sight w t)) met_here (run w n t)) (sym past)
    ∙ ap (cond (holds r.cond (sight w t)) met_here) (leads.next t))
