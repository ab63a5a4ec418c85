-- The chains of the diagram's stages.
use Rattle.std.proofs.Common.{◌≡◌, ℕ, zero, suc, ◌+◌, ◌<◌, Bool, true, false, ◌||◌, nat_eq, Option, Some, None, is_some, List, [], ◌∷◌, ◌++◌, arith, refl, sym, ap, ◌∙◌, eqb-true}
use Rattle.std.proofs.lemmas.Bool.{false≢true, or_left, or_right, ne_eqb}
use Rattle.std.proofs.lemmas.List.Folds.{list_any-append}
use Rattle.std.specs.List.{list_any}
use Rattle.std.specs.Option.{option_map_or}
use Rattle.fws_net.specs.declared.site.Site.{Site}
use Rattle.fws_ifcl.specs.declared.diagram.Stage.{Stage}
use Rattle.fws_ifcl.specs.Refusals.{is_staged}
use Rattle.fws_ipt.specs.declared.config.IptChain.{IptChain}
use Rattle.fws_ipt.specs.declared.config.IptConfig.{IptConfig}
use Rattle.fws_ipt.specs.declared.config.IptTable.{IptTable}
use Rattle.fws_ipt.specs.declared.config.IptTable.TheVariants.{Filter, Nat, Mangle}
use Rattle.fws_ipt.specs.declared.hook.Hook.{Hook}
use Rattle.fws_ipt.specs.declared.hook.Hook.TheVariants.{Prerouting, Input, Forward, Output, Postrouting}
use Rattle.fws_ipt.specs.Refusals.{is_builtin}
use Rattle.fws_ipt.specs.Walk.{builtin_from, arriving, delivered, forwarded, sent_out}
use Rattle.fws_ipt_ifcl.specs.declared.side.SideTest.{SideTest}
use Rattle.fws_ipt_ifcl.specs.Diagram.{own_stage, tracked_at, stage_for, builtin_stage, stages_for, drawn_by}
use Rattle.fws_ipt_ifcl.specs.Fitting.{is_met, AreMet}
use Rattle.fws_ipt_ifcl.proofs.Files.{nat_moved, built_in, stands_parts}
use Rattle.fws_ipt_ifcl.proofs.Lists.{any_found, any_same}

-- a stage at the chain with this number
abbrev is_at : ℕ → Stage → Bool
is_at n stage = nat_eq n stage.chain

-- for a table at a hook
abbrev has_stage : List IptChain → ℕ → IptTable × Hook → Bool
has_stage chains n at = list_any (is_at n) (tracked_at at.0 at.1) || list_any (is_at n) (builtin_stage chains at.0 at.1)

any_stage : (chains : List IptChain) (n : ℕ) (places : List (IptTable × Hook)) → list_any (is_at n) (stages_for chains places) ≡ list_any (has_stage chains n) places
any_stage chains n [] = refl
any_stage chains n (at ∷ rest) =
    list_any-append (is_at n) (tracked_at at.0 at.1 ++ builtin_stage chains at.0 at.1) (stages_for chains rest)
    ∙ ap (λ b. b || list_any (is_at n) (stages_for chains rest)) (list_any-append (is_at n) (tracked_at at.0 at.1) (builtin_stage chains at.0 at.1))
    ∙ ap (λ b. has_stage chains n at || b) (any_stage chains n rest)

-- all stages together
abbrev whole : List IptChain → ℕ → Bool
whole chains n =
    nat_eq n 0 || list_any (has_stage chains n) arriving || list_any (has_stage chains n) delivered || list_any (has_stage chains n) forwarded
    || (nat_eq n 0 || list_any (has_stage chains n) sent_out)

four_any : {X : Type 0} (test : X → Bool) (a b c d : List X) → list_any test (a ++ b ++ c ++ d) ≡ (list_any test a || list_any test b || list_any test c || list_any test d)
four_any test a b c d =
    list_any-append test (a ++ b ++ c) d
    ∙ ap (λ x. x || list_any test d) (list_any-append test (a ++ b) c ∙ ap (λ x. x || list_any test c) (list_any-append test a b))

four_same : (a b c d e f g h : Bool) → a ≡ e → b ≡ f → c ≡ g → d ≡ h → (a || b || c || d) ≡ (e || f || g || h)
four_same a b c d e f g h first second third fourth =
    ap (λ x. x || b || c || d) first ∙ ap (λ x. e || x || c || d) second ∙ ap (λ x. e || f || x || d) third ∙ ap (λ x. e || f || g || x) fourth

staged_whole : (asks : SideTest) (site : Site) (c : IptConfig) (n : ℕ) → is_staged (drawn_by asks site c) n ≡ whole c.chains n
staged_whole asks site c n =
    four_any (is_at n) (own_stage 0 ∷ stages_for c.chains arriving) (stages_for c.chains delivered) (stages_for c.chains forwarded) (own_stage 0 ∷ stages_for c.chains sent_out)
    ∙ four_same (nat_eq n 0 || list_any (is_at n) (stages_for c.chains arriving)) (list_any (is_at n) (stages_for c.chains delivered))
    (list_any (is_at n) (stages_for c.chains forwarded)) (nat_eq n 0 || list_any (is_at n) (stages_for c.chains sent_out))
    (nat_eq n 0 || list_any (has_stage c.chains n) arriving) (list_any (has_stage c.chains n) delivered)
    (list_any (has_stage c.chains n) forwarded) (nat_eq n 0 || list_any (has_stage c.chains n) sent_out)
    (ap (λ b. nat_eq n 0 || b) (any_stage c.chains n arriving)) (any_stage c.chains n delivered) (any_stage c.chains n forwarded)
    (ap (λ b. nat_eq n 0 || b) (any_stage c.chains n sent_out))

-- The diagram's own chains

pub own_staged : (asks : SideTest) (site : Site) (c : IptConfig) (n : ℕ) → n < 3 → is_staged (drawn_by asks site c) n ≡ true
own_staged asks site c zero lt = staged_whole asks site c 0
own_staged asks site c (suc zero) lt =
    let there : list_any (has_stage c.chains 1) arriving ≡ true = or_right (has_stage c.chains 1 (Mangle, Prerouting)) true refl in
    staged_whole asks site c 1
    ∙ ap (λ b. (nat_eq 1 0 || b) || list_any (has_stage c.chains 1) delivered || list_any (has_stage c.chains 1) forwarded || (nat_eq 1 0 || list_any (has_stage c.chains 1) sent_out)) there
own_staged asks site c (suc (suc zero)) lt =
    let there : list_any (has_stage c.chains 2) delivered ≡ true =
    or_right (has_stage c.chains 2 (Mangle, Input)) (has_stage c.chains 2 (Filter, Input) || true) (or_right (has_stage c.chains 2 (Filter, Input)) true refl) in
    staged_whole asks site c 2
    ∙ or_left (list_any (has_stage c.chains 2) arriving || list_any (has_stage c.chains 2) delivered || list_any (has_stage c.chains 2) forwarded) (list_any (has_stage c.chains 2) sent_out)
    (or_left (list_any (has_stage c.chains 2) arriving || list_any (has_stage c.chains 2) delivered) (list_any (has_stage c.chains 2) forwarded)
    (or_right (list_any (has_stage c.chains 2) arriving) (list_any (has_stage c.chains 2) delivered) there))
own_staged asks site c (suc (suc (suc n))) lt = absurd (omega (arith, lt))

-- The file's chains

-- the built-in chain of a table at a hook is the one with this number
abbrev meets : List IptChain → ℕ → IptTable × Hook → Bool
meets chains n at = option_map_or (nat_eq n) (builtin_from 0 at.0 at.1 chains) false

other : (n k : ℕ) → k < 3 → nat_eq (n + 3) k ≡ false
other n k lt = ne_eqb (n + 3) k (λ is. omega (arith, lt, is))

none_tracked : (n : ℕ) (table : IptTable) (hook : Hook) → list_any (is_at (n + 3)) (tracked_at table hook) ≡ false
none_tracked n Nat Prerouting = ap (λ b. b || false) (other n 1 (omega arith))
none_tracked n Nat Input = ap (λ b. b || false) (other n 2 (omega arith))
none_tracked n Nat Forward = refl
none_tracked n Nat Output = ap (λ b. b || false) (other n 1 (omega arith))
none_tracked n Nat Postrouting = ap (λ b. b || false) (other n 2 (omega arith))
none_tracked n Filter hook = refl
none_tracked n Mangle hook = refl

or_none : (b : Bool) → (b || false) ≡ b
or_none true = refl
or_none false = refl

met_stage : (chains : List IptChain) (n : ℕ) (table : IptTable) (hook : Hook) (o : Option ℕ)
    → list_any (is_at (n + 3)) (option_map_or (λ c. stage_for chains table hook c ∷ []) o []) ≡ option_map_or (nat_eq n) o false
met_stage chains n table hook None = refl
met_stage chains n table hook (Some c) = ap (λ b. b || false) (nat_moved n c) ∙ or_none (nat_eq n c)

stage_meets : (chains : List IptChain) (n : ℕ) (at : IptTable × Hook) → has_stage chains (n + 3) at ≡ meets chains n at
stage_meets chains n at =
    ap (λ b. b || list_any (is_at (n + 3)) (builtin_stage chains at.0 at.1)) (none_tracked n at.0 at.1) ∙ met_stage chains n at.0 at.1 (builtin_from 0 at.0 at.1 chains)

pub file_staged : (asks : SideTest) (site : Site) (c : IptConfig) (n : ℕ) → is_staged (drawn_by asks site c) (n + 3) ≡ is_met c.chains n
file_staged asks site c n =
    let each : (places : List (IptTable × Hook)) → list_any (has_stage c.chains (n + 3)) places ≡ list_any (meets c.chains n) places =
    any_same (has_stage c.chains (n + 3)) (meets c.chains n) (stage_meets c.chains n) in
    let first : nat_eq (n + 3) 0 ≡ false = other n 0 (omega arith) in
    staged_whole asks site c (n + 3)
    ∙ four_same (nat_eq (n + 3) 0 || list_any (has_stage c.chains (n + 3)) arriving) (list_any (has_stage c.chains (n + 3)) delivered)
    (list_any (has_stage c.chains (n + 3)) forwarded) (nat_eq (n + 3) 0 || list_any (has_stage c.chains (n + 3)) sent_out)
    (list_any (meets c.chains n) arriving) (list_any (meets c.chains n) delivered) (list_any (meets c.chains n) forwarded) (list_any (meets c.chains n) sent_out)
    (ap (λ b. b || list_any (has_stage c.chains (n + 3)) arriving) first ∙ each arriving) (each delivered) (each forwarded)
    (ap (λ b. b || list_any (has_stage c.chains (n + 3)) sent_out) first ∙ each sent_out)
    ∙ sym (four_any (meets c.chains n) arriving delivered forwarded sent_out)

-- a chain that is met is built in
met_number : (chains : List IptChain) (n : ℕ) (table : IptTable) (hook : Hook) (o : Option ℕ) → builtin_from 0 table hook chains ≡ o → option_map_or (nat_eq n) o false ≡ true
    → is_builtin chains n ≡ true
met_number chains n table hook None is met = absurd (false≢true met)
met_number chains n table hook (Some c) is met =
    let same : n ≡ c = eqb-true n c met in
    let built = built_in chains table hook c is in
    let policy : is_some built.chain.policy ≡ true = (stands_parts table hook built.chain built.stands).2 in
    ap (is_builtin chains) same ∙ ap (λ o. option_map_or (λ (chain : IptChain). is_some chain.policy) o false) built.is ∙ policy

met_builtin : (chains : List IptChain) (n : ℕ) → is_met chains n ≡ true → is_builtin chains n ≡ true
met_builtin chains n met =
    let found = any_found (meets chains n) (arriving ++ delivered ++ forwarded ++ sent_out) met in
    met_number chains n found.0.0 found.0.1 (builtin_from 0 found.0.0 found.0.1 chains) refl found.2

same_truth : (a b : Bool) → (a ≡ true → b ≡ true) → (b ≡ true → a ≡ true) → a ≡ b
same_truth true b there back = sym (there refl)
same_truth false true there back = back refl
same_truth false false there back = refl

pub builtins_staged : (asks : SideTest) (site : Site) (c : IptConfig) → AreMet c.chains → (n : ℕ) → is_staged (drawn_by asks site c) (n + 3) ≡ is_builtin c.chains n
builtins_staged asks site c met n = file_staged asks site c n ∙ same_truth (is_met c.chains n) (is_builtin c.chains n) (met_builtin c.chains n) (met n)
