-- The chains that the diagram's rules name, and that its numbers are right.
use Rattle.std.proofs.Common.{◌≡◌, ℕ, suc, ◌+◌, ◌<◌, ◌≤◌, Bool, true, false, ◌&&◌, nat_lt, slice_get, Option, Some, None, option_map, List, [], ◌∷◌, ◌++◌, length, map, arith, refl, sym, ap, ◌∙◌, subst, append_assoc, length-append}
use Rattle.std.proofs.lemmas.Bool.{false≢true, and_parts, and_from, lt-ltb}
use Rattle.std.proofs.lemmas.List.{length-map}
use Rattle.std.proofs.lemmas.List.Sums.{sum_by-cons}
use Rattle.std.proofs.lemmas.List.Folds.{list_all-append}
use Rattle.std.specs.List.{list_all}
use Rattle.std.specs.Option.{option_map_or}
use Rattle.fws_net.specs.declared.condition.Lit.{Lit}
use Rattle.fws_net.specs.declared.condition.Test.TheVariants.{Xmit}
use Rattle.fws_net.specs.declared.site.Site.{Site}
use Rattle.fws_ifcl.specs.declared.diagram.Act.{Act}
use Rattle.fws_ifcl.specs.declared.diagram.Act.TheVariants.{Accept, Src, Dst}
use Rattle.fws_ifcl.specs.declared.diagram.Chain.{Chain}
use Rattle.fws_ifcl.specs.declared.diagram.Rule.{Rule}
use Rattle.fws_ifcl.specs.Refusals.{named_by as called_by, all_named as all_called, named_in as called_in}
use Rattle.fws_ifcl.specs.Soundness.{act_ok, rules_ok, chain_ok, stage_ok, ifcl_ok}
use Rattle.fws_ifcl.specs.Walk.{rules_at}
use Rattle.fws_rules.specs.Literals.{positive}
use Rattle.fws_ifcl_rules.specs.Right.{RulesAreRightByParts}
use Rattle.fws_ifcl_rules.specs.Rules.{ruled, always}
use Rattle.fws_ipt.specs.declared.config.IptChain.{IptChain}
use Rattle.fws_ipt.specs.declared.config.IptConfig.{IptConfig}
use Rattle.fws_ipt.specs.declared.config.IptGo.{IptGo}
use Rattle.fws_ipt.specs.declared.config.IptGo.TheVariants as goes
use Rattle.fws_ipt.specs.declared.config.IptRule.{IptRule}
use Rattle.fws_ipt.specs.declared.config.IptTable.{IptTable}
use Rattle.fws_ipt.specs.declared.config.IptTable.TheVariants.{Filter, Nat, Mangle}
use Rattle.fws_ipt.specs.declared.hook.Hook.{Hook}
use Rattle.fws_ipt.specs.declared.hook.Hook.TheVariants.{Prerouting, Input, Forward, Output, Postrouting}
use Rattle.fws_ipt.specs.Refusals.{named_by, all_named, named_in, width_of, rules_width, head_width, chain_width, width_at}
use Rattle.fws_ipt.specs.Soundness.{fits, chain_fits, is_fitting}
use Rattle.fws_ipt.specs.Walk.{builtin_from, arriving, delivered, forwarded, sent_out}
use Rattle.fws_ipt_ifcl.specs.declared.side.SideTest.{SideTest}
use Rattle.fws_ipt_ifcl.specs.declared.side.SideTest.TheVariants.{First, Each}
use Rattle.fws_ipt_ifcl.specs.Blocks.{all_entries, guarded_writes, masquerading, redirecting, side, sided, side_writes, mapping, unfolded}
use Rattle.fws_ipt_ifcl.specs.Diagram.{own_chains, own_stage, headed, unfolded_all, chain_for, is_on_source, tracked_at, stage_for, builtin_stage, stages_for, drawn_by}
use Rattle.fws_ipt_ifcl.proofs.RulesMet.{mapping_writes}
use Rattle.fws_ipt_ifcl.proofs.Writes.{redirecting_writes, masquerading_writes}
use Rattle.fws_ipt_ifcl.proofs.Files.{file_rules, user_within, built_in, built_within}
use Rattle.fws_ipt_ifcl.proofs.Guarding.{is_write, are_writes}
use Rattle.fws_ipt_ifcl.proofs.Widths.{unfolded_width, headed_width, side_width}

-- Named chains

called_both : (xs ys : List Rule) → all_called (xs ++ ys) ≡ all_called xs ++ all_called ys
called_both [] ys = refl
called_both (r ∷ rs) ys =
    let here = option_map_or (λ c. c ∷ []) (called_by r.act) [] in
    ap (λ more. here ++ more) (called_both rs ys) ∙ sym (append_assoc here (all_called rs) (all_called ys))

write_calls : (act : Act) → is_write act ≡ true → option_map_or (λ c. c ∷ []) (called_by act) [] ≡ []
write_calls (Src e) is = refl
write_calls (Dst e) is = refl
write_calls _ is = absurd (false≢true is)

writes_call : (writes : List Rule) → are_writes writes ≡ true → all_called (writes ++ always Accept ∷ []) ≡ []
writes_call [] are = refl
writes_call (r ∷ rs) are =
    let both = and_parts (is_write r.act) (are_writes rs) are in
    ap (λ here. here ++ all_called (rs ++ always Accept ∷ [])) (write_calls r.act both.0) ∙ writes_call rs both.1

sided_call : (outward : Bool) (more : List Lit) (writes : List Rule) → are_writes writes ≡ true → all_called (map (sided outward) (writes ++ ruled more Accept ∷ [])) ≡ []
sided_call outward more [] are = refl
sided_call outward more (r ∷ rs) are =
    let both = and_parts (is_write r.act) (are_writes rs) are in
    ap (λ here. here ++ all_called (map (sided outward) (rs ++ ruled more Accept ∷ []))) (write_calls r.act both.0) ∙ sided_call outward more rs both.1

side_calls : (asks : SideTest) (at : ℕ) (test : List Lit) (outward : Bool) (more : List Lit) (writes : List Rule) → are_writes writes ≡ true
    → all_called (side_writes asks at test outward more writes) ≡ []
side_calls First at test outward more writes are = writes_call writes are
side_calls Each at test outward more writes are = sided_call outward more writes are

unfolded_calls : (asks : SideTest) (site : Site) (on_source : Bool) (at : ℕ) (test : List Lit) (go : IptGo)
    → all_called (unfolded asks site on_source at test go) ≡ map (λ n. n + 3) (option_map_or (λ c. c ∷ []) (named_by go) [])
unfolded_calls asks site on_source at test (goes.Source e) = side_calls asks at test true [] (always (Src e) ∷ []) refl
unfolded_calls asks site on_source at test goes.Masquerade = side_calls asks at test true (positive (Xmit (all_entries site)) ∷ []) (masquerading site) (masquerading_writes site)
unfolded_calls asks site on_source at test (goes.Dest e) = side_calls asks at test false [] (always (Dst e) ∷ []) refl
unfolded_calls asks site on_source at test (goes.Redirect port) = side_calls asks at test false [] (redirecting site port) (redirecting_writes site port)
unfolded_calls asks site on_source at test (goes.Netmap net) = writes_call (always (mapping on_source net) ∷ []) (mapping_writes on_source net)
unfolded_calls asks site on_source at test _ = refl

map_both : (f : ℕ → ℕ) (xs ys : List ℕ) → map f (xs ++ ys) ≡ map f xs ++ map f ys
map_both f [] ys = refl
map_both f (x ∷ xs) ys = ap (λ more. f x ∷ more) (map_both f xs ys)

all_calls : (asks : SideTest) (site : Site) (on_source : Bool) (at : ℕ) (rules : List IptRule) → all_called (unfolded_all asks site on_source at rules) ≡ map (λ n. n + 3) (all_named rules)
all_calls asks site on_source at [] = refl
all_calls asks site on_source at (r ∷ rs) =
    let next = at + width_of (length site.faces) r.go in
    called_both (unfolded asks site on_source at r.cond r.go) (unfolded_all asks site on_source next rs)
    ∙ ap (λ here. here ++ all_called (unfolded_all asks site on_source next rs)) (unfolded_calls asks site on_source at r.cond r.go)
    ∙ ap (λ more. map (λ n. n + 3) (option_map_or (λ c. c ∷ []) (named_by r.go) []) ++ more) (all_calls asks site on_source next rs)
    ∙ sym (map_both (λ n. n + 3) (option_map_or (λ c. c ∷ []) (named_by r.go) []) (all_named rs))

headed_calls : (table : IptTable) (policy : Option Bool) (rest : List Rule) → all_called (headed table policy ++ rest) ≡ all_called rest
headed_calls Nat (Some accepts) rest = refl
headed_calls Nat None rest = refl
headed_calls Filter policy rest = refl
headed_calls Mangle policy rest = refl

pub chain_calls : (asks : SideTest) (site : Site) (chain : IptChain) → all_called (chain_for asks site chain).rules ≡ map (λ n. n + 3) (all_named chain.rules)
chain_calls asks site chain =
    headed_calls chain.table chain.policy _ ∙ all_calls asks site (is_on_source chain.name) (head_width chain.table chain.policy) chain.rules

calls_of : (asks : SideTest) (site : Site) (o : Option IptChain)
    → all_called (option_map_or (λ (chain : Chain). chain.rules) (option_map (chain_for asks site) o) []) ≡ map (λ n. n + 3) (all_named (option_map_or (λ (chain : IptChain). chain.rules) o []))
calls_of asks site None = refl
calls_of asks site (Some chain) = chain_calls asks site chain

-- the file's chains name the same chains behind the diagram's own
pub file_calls : (asks : SideTest) (site : Site) (chains : List IptChain) (c : ℕ)
    → called_in (own_chains ++ map (chain_for asks site) chains) (c + 3) ≡ map (λ n. n + 3) (named_in chains c)
file_calls asks site chains c = ap all_called (file_rules asks site chains c) ∙ calls_of asks site (slice_get chains c)

-- Widths

all_width : (asks : SideTest) (site : Site) (on_source : Bool) (at : ℕ) (rules : List IptRule) → length (unfolded_all asks site on_source at rules) ≡ rules_width (length site.faces) rules
all_width asks site on_source at [] = refl
all_width asks site on_source at (r ∷ rs) =
    let f = length site.faces in
    let next = at + width_of f r.go in
    length-append (unfolded asks site on_source at r.cond r.go) (unfolded_all asks site on_source next rs)
    ∙ ap (λ n. n + length (unfolded_all asks site on_source next rs)) (unfolded_width asks site on_source at r.cond r.go)
    ∙ ap (λ n. width_of f r.go + n) (all_width asks site on_source next rs)
    ∙ sym (sum_by-cons (λ n. n) (width_of f r.go) (map (λ (r : IptRule). width_of f r.go) rs))

pub chain_wide : (asks : SideTest) (site : Site) (chain : IptChain) → length (chain_for asks site chain).rules ≡ chain_width (length site.faces) chain
chain_wide asks site chain =
    let behind = unfolded_all asks site (is_on_source chain.name) (head_width chain.table chain.policy) chain.rules in
    length-append (headed chain.table chain.policy) behind
    ∙ ap (λ n. n + length behind) (headed_width chain.table chain.policy)
    ∙ ap (λ n. head_width chain.table chain.policy + n) (all_width asks site (is_on_source chain.name) (head_width chain.table chain.policy) chain.rules)

wide_of : (asks : SideTest) (site : Site) (o : Option IptChain)
    → length (option_map_or (λ (chain : Chain). chain.rules) (option_map (chain_for asks site) o) []) ≡ option_map_or (chain_width (length site.faces)) o 0
wide_of asks site None = refl
wide_of asks site (Some chain) = chain_wide asks site chain

pub file_widths : (asks : SideTest) (site : Site) (chains : List IptChain) (c : ℕ) → length (rules_at (own_chains ++ map (chain_for asks site) chains) (c + 3)) ≡ width_at (length site.faces) chains c
file_widths asks site chains c = ap length (file_rules asks site chains c) ∙ wide_of asks site (slice_get chains c)

-- Numbers that are right

write_ok : (n all at : ℕ) (act : Act) → is_write act ≡ true → act_ok n all at act ≡ true
write_ok n all at (Src e) is = refl
write_ok n all at (Dst e) is = refl
write_ok n all at _ is = absurd (false≢true is)

writes_ok : (n all at : ℕ) (writes : List Rule) → are_writes writes ≡ true → rules_ok n all at (writes ++ always Accept ∷ []) ≡ true
writes_ok n all at [] are = refl
writes_ok n all at (r ∷ rs) are =
    let both = and_parts (is_write r.act) (are_writes rs) are in
    and_from (act_ok n all at r.act) (rules_ok n all (suc at) (rs ++ always Accept ∷ [])) (write_ok n all at r.act both.0) (writes_ok n all (suc at) rs both.1)

guarded_ok : (law : RulesAreRightByParts) (n all at : ℕ) (test : List Lit) (writes : List Rule) → are_writes writes ≡ true → at + (3 + length writes) ≤ all
    → rules_ok n all at (guarded_writes at test writes) ≡ true
guarded_ok law n all at test writes are le =
    let inner = writes ++ always Accept ∷ [] in
    let long : length inner ≡ length writes + 1 = length-append writes (always Accept ∷ []) in
    (law n all).guarded at test inner (writes_ok n all (at + 2) writes are) (omega (arith, le, long))

sided_ok : (n all at : ℕ) (outward : Bool) (more : List Lit) (writes : List Rule) → are_writes writes ≡ true → rules_ok n all at (map (sided outward) (writes ++ ruled more Accept ∷ [])) ≡ true
sided_ok n all at outward more [] are = refl
sided_ok n all at outward more (r ∷ rs) are =
    let both = and_parts (is_write r.act) (are_writes rs) are in
    and_from (act_ok n all at r.act) (rules_ok n all (suc at) (map (sided outward) (rs ++ ruled more Accept ∷ []))) (write_ok n all at r.act both.0)
    (sided_ok n all (suc at) outward more rs both.1)

side_ok : (law : RulesAreRightByParts) (asks : SideTest) (n all at : ℕ) (test : List Lit) (outward : Bool) (more : List Lit) (writes : List Rule) → are_writes writes ≡ true → at + (3 + length writes) ≤ all
    → rules_ok n all at (side_writes asks at test outward more writes) ≡ true
side_ok law First n all at test outward more writes are le = guarded_ok law n all at (test ++ side outward ∷ more) writes are le
side_ok law Each n all at test outward more writes are le =
    let inner = writes ++ ruled more Accept ∷ [] in
    let long : length inner ≡ length writes + 1 = length-append writes (ruled more Accept ∷ []) in
    let same : length (map (sided outward) inner) ≡ length inner = length-map inner (sided outward) in
    (law n all).guarded at test (map (sided outward) inner) (sided_ok n all (at + 2) outward more writes are) (omega (arith, le, long, same))

call_ok : (n c : ℕ) → c + 3 < n → (nat_lt (c + 3) n && true) ≡ true
call_ok n c lt = and_from (nat_lt (c + 3) n) true (lt-ltb (c + 3) n lt) refl

unfolded_ok : (law : RulesAreRightByParts) (asks : SideTest) (site : Site) (chains : List IptChain) (table : IptTable) (on_source : Bool) (all at : ℕ) (test : List Lit) (go : IptGo)
    → fits table chains go ≡ true → at + width_of (length site.faces) go ≤ all
    → rules_ok (length chains + 3) all at (unfolded asks site on_source at test go) ≡ true
unfolded_ok law asks site chains table on_source all at test goes.Accept fit le = refl
unfolded_ok law asks site chains table on_source all at test goes.Drop fit le = refl
unfolded_ok law asks site chains table on_source all at test goes.Return fit le = refl
unfolded_ok law asks site chains table on_source all at test goes.Next fit le =
    ap (λ b. b && true) ((law (length chains + 3) all).skip at (at + 1) (omega arith) (omega (arith, le)))
unfolded_ok law asks site chains table on_source all at test (goes.Jump c) fit le =
    let within : c < length chains = user_within table chains c fit in
    call_ok (length chains + 3) c (omega (arith, within))
unfolded_ok law asks site chains table on_source all at test (goes.Goto c) fit le =
    let within : c < length chains = user_within table chains c fit in
    call_ok (length chains + 3) c (omega (arith, within))
unfolded_ok law asks site chains table on_source all at test (goes.Mark v) fit le = refl
unfolded_ok law asks site chains table on_source all at test (goes.Source e) fit le = side_ok law asks (length chains + 3) all at test true [] (always (Src e) ∷ []) refl le
unfolded_ok law asks site chains table on_source all at test goes.Masquerade fit le =
    let more = positive (Xmit (all_entries site)) ∷ [] in
    side_ok law asks (length chains + 3) all at test true more (masquerading site) (masquerading_writes site)
    (subst (λ w. at + w ≤ all) (sym (sym (side_width asks at test true more (masquerading site)) ∙ unfolded_width asks site on_source at test goes.Masquerade)) le)
unfolded_ok law asks site chains table on_source all at test (goes.Dest e) fit le = side_ok law asks (length chains + 3) all at test false [] (always (Dst e) ∷ []) refl le
unfolded_ok law asks site chains table on_source all at test (goes.Redirect port) fit le =
    side_ok law asks (length chains + 3) all at test false [] (redirecting site port) (redirecting_writes site port)
    (subst (λ w. at + w ≤ all) (sym (sym (side_width asks at test false [] (redirecting site port)) ∙ unfolded_width asks site on_source at test (goes.Redirect port))) le)
unfolded_ok law asks site chains table on_source all at test (goes.Netmap net) fit le =
    guarded_ok law (length chains + 3) all at test (always (mapping on_source net) ∷ []) (mapping_writes on_source net) le

all_ok : (law : RulesAreRightByParts) (asks : SideTest) (site : Site) (chains : List IptChain) (table : IptTable) (on_source : Bool) (all at : ℕ) (rules : List IptRule)
    → list_all (λ (rule : IptRule). fits table chains rule.go) rules ≡ true → at + length (unfolded_all asks site on_source at rules) ≤ all
    → rules_ok (length chains + 3) all at (unfolded_all asks site on_source at rules) ≡ true
all_ok law asks site chains table on_source all at [] fit le = refl
all_ok law asks site chains table on_source all at (r ∷ rs) fit le =
    let both = and_parts (fits table chains r.go) (list_all (λ (rule : IptRule). fits table chains rule.go) rs) fit in
    let w = width_of (length site.faces) r.go in
    let here : length (unfolded asks site on_source at r.cond r.go) ≡ w = unfolded_width asks site on_source at r.cond r.go in
    let sizes : length (unfolded_all asks site on_source at (r ∷ rs)) ≡ length (unfolded asks site on_source at r.cond r.go) + length (unfolded_all asks site on_source (at + w) rs) =
    length-append (unfolded asks site on_source at r.cond r.go) (unfolded_all asks site on_source (at + w) rs) in
    (law (length chains + 3) all).joined at (at + w) (unfolded asks site on_source at r.cond r.go) (unfolded_all asks site on_source (at + w) rs) (omega (arith, here))
    (unfolded_ok law asks site chains table on_source all at r.cond r.go both.0 (omega (arith, le, here, sizes)))
    (all_ok law asks site chains table on_source all (at + w) rs both.1 (omega (arith, le, here, sizes)))

headed_ok : (n all : ℕ) (table : IptTable) (policy : Option Bool) → rules_ok n all 0 (headed table policy) ≡ true
headed_ok n all Nat (Some accepts) = refl
headed_ok n all Nat None = refl
headed_ok n all Filter policy = refl
headed_ok n all Mangle policy = refl

drawn_ok : (law : RulesAreRightByParts) (asks : SideTest) (site : Site) (chains : List IptChain) (chain : IptChain) → chain_fits chains chain ≡ true → chain_ok (length chains + 3) (chain_for asks site chain) ≡ true
drawn_ok law asks site chains chain fit =
    let head = headed chain.table chain.policy in
    let at = head_width chain.table chain.policy in
    let behind = unfolded_all asks site (is_on_source chain.name) at chain.rules in
    let ahead : length head ≡ at = headed_width chain.table chain.policy in
    let sizes : length (head ++ behind) ≡ length head + length behind = length-append head behind in
    let all = length (head ++ behind) in
    (law (length chains + 3) all).joined 0 at head behind (omega (arith, ahead)) (headed_ok (length chains + 3) all chain.table chain.policy)
    (all_ok law asks site chains chain.table (is_on_source chain.name) all at chain.rules fit (omega (arith, ahead, sizes)))

all_drawn_ok : (law : RulesAreRightByParts) (asks : SideTest) (site : Site) (chains rest : List IptChain) → list_all (chain_fits chains) rest ≡ true → list_all (chain_ok (length chains + 3)) (map (chain_for asks site) rest) ≡ true
all_drawn_ok law asks site chains [] fit = refl
all_drawn_ok law asks site chains (chain ∷ rest) fit =
    let both = and_parts (chain_fits chains chain) (list_all (chain_fits chains) rest) fit in
    and_from (chain_ok (length chains + 3) (chain_for asks site chain)) (list_all (chain_ok (length chains + 3)) (map (chain_for asks site) rest)) (drawn_ok law asks site chains chain both.0)
    (all_drawn_ok law asks site chains rest both.1)

-- Stages

pub drawn_count : (asks : SideTest) (site : Site) (chains : List IptChain) → length (own_chains ++ map (chain_for asks site) chains) ≡ length chains + 3
drawn_count asks site chains =
    let mapped : length (map (chain_for asks site) chains) ≡ length chains = length-map chains (chain_for asks site) in
    let all : length (own_chains ++ map (chain_for asks site) chains) ≡ 3 + length (map (chain_for asks site) chains) = length-append own_chains (map (chain_for asks site) chains) in
    omega (arith, mapped, all)

own_ok : (n k : ℕ) → k < 3 → stage_ok (n + 3) (own_stage k) ≡ true
own_ok n k lt = lt-ltb k (n + 3) (omega (arith, lt))

one_ok : (n k : ℕ) → k < 3 → list_all (stage_ok (n + 3)) (own_stage k ∷ []) ≡ true
one_ok n k lt = and_from (stage_ok (n + 3) (own_stage k)) true (own_ok n k lt) refl

tracked_ok : (n : ℕ) (table : IptTable) (hook : Hook) → list_all (stage_ok (n + 3)) (tracked_at table hook) ≡ true
tracked_ok n Nat Prerouting = one_ok n 1 (omega arith)
tracked_ok n Nat Input = one_ok n 2 (omega arith)
tracked_ok n Nat Forward = refl
tracked_ok n Nat Output = one_ok n 1 (omega arith)
tracked_ok n Nat Postrouting = one_ok n 2 (omega arith)
tracked_ok n Filter hook = refl
tracked_ok n Mangle hook = refl

builtin_ok : (chains : List IptChain) (table : IptTable) (hook : Hook) (o : Option ℕ) → builtin_from 0 table hook chains ≡ o
    → list_all (stage_ok (length chains + 3)) (option_map_or (λ c. stage_for chains table hook c ∷ []) o []) ≡ true
builtin_ok chains table hook None is = refl
builtin_ok chains table hook (Some c) is =
    let within : c < length chains = built_within chains table hook c (built_in chains table hook c is) in
    and_from (nat_lt (c + 3) (length chains + 3)) true (lt-ltb (c + 3) (length chains + 3) (omega (arith, within))) refl

stages_ok : (chains : List IptChain) (places : List (IptTable × Hook)) → list_all (stage_ok (length chains + 3)) (stages_for chains places) ≡ true
stages_ok chains [] = refl
stages_ok chains (at ∷ rest) =
    let test = stage_ok (length chains + 3) in
    list_all-append test (tracked_at at.0 at.1 ++ builtin_stage chains at.0 at.1) (stages_for chains rest)
    ∙ and_from (list_all test (tracked_at at.0 at.1 ++ builtin_stage chains at.0 at.1)) (list_all test (stages_for chains rest))
    (list_all-append test (tracked_at at.0 at.1) (builtin_stage chains at.0 at.1)
    ∙ and_from (list_all test (tracked_at at.0 at.1)) (list_all test (builtin_stage chains at.0 at.1)) (tracked_ok (length chains) at.0 at.1)
    (builtin_ok chains at.0 at.1 (builtin_from 0 at.0 at.1 chains) refl))
    (stages_ok chains rest)

five : (a b c d e : Bool) → a ≡ true → b ≡ true → c ≡ true → d ≡ true → e ≡ true → (a && b && c && d && e) ≡ true
five true true true true true first second third fourth fifth = refl
five true true true true false first second third fourth fifth = fifth
five true true true false e first second third fourth fifth = fourth
five true true false d e first second third fourth fifth = third
five true false c d e first second third fourth fifth = second
five false b c d e first second third fourth fifth = first

pub diagram_ok : (law : RulesAreRightByParts) (asks : SideTest) (site : Site) (c : IptConfig) → is_fitting c ≡ true → ifcl_ok (drawn_by asks site c) ≡ true
diagram_ok law asks site c fit =
    let n = length c.chains + 3 in
    let drawn = own_chains ++ map (chain_for asks site) c.chains in
    let staged : (places : List (IptTable × Hook)) → list_all (stage_ok n) (own_stage 0 ∷ stages_for c.chains places) ≡ true =
    λ places. and_from (stage_ok n (own_stage 0)) (list_all (stage_ok n) (stages_for c.chains places)) (own_ok (length c.chains) 0 (omega arith)) (stages_ok c.chains places) in
    subst (λ k. (list_all (chain_ok k) drawn && list_all (stage_ok k) (own_stage 0 ∷ stages_for c.chains arriving) && list_all (stage_ok k) (stages_for c.chains delivered)
    && list_all (stage_ok k) (stages_for c.chains forwarded) && list_all (stage_ok k) (own_stage 0 ∷ stages_for c.chains sent_out)) ≡ true)
    (sym (drawn_count asks site c.chains))
    (five (list_all (chain_ok n) drawn) (list_all (stage_ok n) (own_stage 0 ∷ stages_for c.chains arriving)) (list_all (stage_ok n) (stages_for c.chains delivered))
    (list_all (stage_ok n) (stages_for c.chains forwarded)) (list_all (stage_ok n) (own_stage 0 ∷ stages_for c.chains sent_out))
    (all_drawn_ok law asks site c.chains c.chains fit) (staged arriving) (stages_ok c.chains delivered) (stages_ok c.chains forwarded) (staged sent_out))
