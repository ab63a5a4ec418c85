-- What is made of one node more.
use Rattle.std.proofs.Common.{◌≡◌, ◌≢◌, ◌⊎◌, ℕ, zero, suc, ◌+◌, ◌<◌, ◌≤◌, true, false, ◌&&◌, not, ◌||◌, cond, Option, Some, None, List, [], ◌∷◌, ◌++◌, length, slice_get, inl, inr, refl, sym, ◌∙◌, ap, subst, arith, append_assoc, length-append, append-nil}
use Rattle.std.proofs.lemmas.Bool.{and_from, and_parts, or_right, cases_eq}
use Rattle.std.proofs.lemmas.List.{get_or_push, get_or_append_left}
use Rattle.std.proofs.lemmas.List.Elements.{All-push, All-from_recursion}
use Rattle.std.proofs.lemmas.List.Folds.{list_all-append}
use Rattle.std.proofs.lemmas.Option.{none-some, same_Some, slice_get_within}
use Rattle.std.specs.List.{AllByRecursion, list_all}
use Rattle.std.specs.Option.{option_map_or}
use Rattle.std.specs.Prelude.{All, MatchOption, is_none, is_some, nat_le, slice_index_or}
use Rattle.fws_net.specs.declared.condition.Lit.{Lit}
use Rattle.fws_net.specs.declared.site.Site.{Site}
use Rattle.fws_net.specs.Points.{tops_of}
use Rattle.fws_ipt.specs.declared.config.IptChain.{IptChain}
use Rattle.fws_ipt.specs.declared.config.IptGo.{IptGo}
use Rattle.fws_ipt.specs.declared.config.IptGo.TheVariants as goes
use Rattle.fws_ipt.specs.declared.config.IptRule.{IptRule}
use Rattle.fws_ipt.specs.declared.config.IptTable.{IptTable}
use Rattle.fws_ipt.specs.declared.config.IptTable.TheVariants.{Filter, Nat, Mangle}
use Rattle.fws_ipt.specs.Soundness.{is_user_chain}
use Rattle.fws_ipt.specs.Walk.{is_table}
use Rattle.fws_tree.specs.declared.node.Kid.{Kid}
use Rattle.fws_tree.specs.declared.node.Node.{Node}
use Rattle.fws_tree.specs.declared.node.Node.TheVariants.{Leaf, Cut}
use Rattle.fws_tree.specs.Plain.{Plain, leaf, cut, Kids, none, kid}
use Rattle.fws_tree.specs.Shared.{IsShared, subtree_of}
use Rattle.fws_tree.specs.Subtrees.{IsSubtree, IsKidSubtree}
use Rattle.fws_ipt_print.specs.Printable.{is_chain_name, is_printed_act, is_printed_chain, is_printed_policy, is_printed_rule, shows_receiving}
use Rattle.fws_tree_seen.specs.declared.field.PacketField.{PacketField}
use Rattle.fws_tree_seen.specs.declared.seen.Seen.{Seen}
use Rattle.fws_tree_seen.specs.Cuts.{IsCutNode}
use Rattle.fws_tree_seen.specs.Shown.{seen_field}
use Rattle.fws_ipt_put_chains.specs.declared.coming.Coming.{Coming}
use Rattle.fws_ipt_put_chains.specs.declared.verdict.Verdict.{Verdict}
use Rattle.fws_ipt_put_chains.specs.declared.verdict.Verdict.TheVariants.{Accept, Drop, Mark}
use Rattle.fws_ipt_put_chains.specs.Acts.{leaf_act, AreActs, IsFit, IsFitCut, IsNodePut}
use Rattle.fws_ipt_put_chains.specs.Blocks.{EndsInNumber, IsBlock, IsPrintedAct}
use Rattle.fws_ipt_put_chains.specs.Branches.{HasMarkChains, HaveMarkChains}
use Rattle.fws_ipt_put_chains.specs.Comings.{coming_at, AreComings}
use Rattle.fws_ipt_put_chains.specs.Pieces.{is_printed_cond}
use Rattle.fws_ipt_put_chains.specs.Reached.{Decides}
use Rattle.fws_ipt_put_chains.specs.Rules.{act_at, rules_of, AreCutRules, AreKidRules, IsCutChain}
use Rattle.fws_ipt_put_chains.proofs.Sight.{Sight}
use Rattle.fws_ipt_put_chains.proofs.Entered.{cut_decides, decides_more, get_last, leaf_decides, mark_chain_more}

-- ---- nodes of which acts can be made

-- a cut as rules need it, over the tops of a site
pub fit_cut : Sight → (site : Site) (seen : Seen) (leaves : List Verdict) (nodes : List Node) (k f : ℕ) (kids : List Kid) → IsCutNode (tops_of site) leaves nodes k f kids → IsFitCut seen k f kids
fit_cut sight site seen leaves nodes k f kids node = record {
  some = (let m = node.many in omega (arith, m));
  parted = λ field e v. node.parted v ∙ ap (λ n. cond (nat_le v n) 1 0) ((sight.agree seen f field e).top site);
  known = All-from_recursion (λ kid. kid.node < k) kids node.before;
}

pub fit : Sight → (site : Site) (seen : Seen) (t : Plain Verdict) (leaves : List Verdict) (nodes : List Node) → IsShared (tops_of site) t leaves nodes → (k : ℕ) (node : Node) → slice_get nodes k ≡ Some node → IsFit seen leaves k node
fit sight site seen t leaves nodes shared k (Leaf n) at = shared.named k n at
fit sight site seen t leaves nodes shared k (Cut f kids) at = fit_cut sight site seen leaves nodes k f kids (sight.cuts (tops_of site) t leaves nodes k f kids shared at)

-- ---- printed acts

not_nat : (table : IptTable) → table ≢ Nat → not (is_table Nat table) ≡ true
not_nat Filter h = refl
not_nat Nat h = absurd (h refl)
not_nat Mangle h = refl

table_self : (table : IptTable) → is_table table table ≡ true
table_self Filter = refl
table_self Nat = refl
table_self Mangle = refl

pub printed_more : (table : IptTable) (chains more : List IptChain) (go : IptGo) → IsPrintedAct table chains go → IsPrintedAct table (chains ++ more) go
printed_more table chains more go h = λ further chain cond is. ap (λ l. is_printed_act l chain cond go) (append_assoc chains more further) ∙ h (more ++ further) chain cond is

leaf_printed : (table : IptTable) (least : ℕ) (chains : List IptChain) (a : Verdict) → table ≢ Nat → HasMarkChains table least chains (leaf a) → IsPrintedAct table chains (leaf_act a)
leaf_printed table least chains Accept other h = λ further chain cond is. refl
leaf_printed table least chains Drop other h = λ further chain cond is. ap (λ t. not (is_table Nat t)) is ∙ not_nat table other
leaf_printed table least chains (Mark v) other h = λ further chain cond is.
    ap (λ t. is_user_chain t (chains ++ further) v) is ∙ (mark_chain_more table least chains further v h).user

cut_printed : (table : IptTable) (chains : List IptChain) (chain : IptChain) → chain.table ≡ table → chain.policy ≡ None → IsPrintedAct table (chains ++ chain ∷ []) (goes.Goto (length chains))
cut_printed table chains chain table-is policy-is = λ further at cond is.
    ap (λ t. is_user_chain t ((chains ++ chain ∷ []) ++ further) (length chains)) is
    ∙ ap (λ o. option_map_or (λ c. is_table table c.table && is_none c.policy) o false) (get_last chains chain further)
    ∙ and_from (is_table table chain.table) (is_none chain.policy) (ap (is_table table) table-is ∙ table_self table) (ap is_none policy-is)

-- ---- the chain of a cut is printed

rules_printed : (site : Site) (all : List IptChain) (chain : IptChain) (go : IptGo) → ((cond : List Lit) → is_printed_act all chain cond go ≡ true)
    → (conds : List (List Lit)) → list_all (is_printed_cond site (shows_receiving chain)) conds ≡ true → list_all (is_printed_rule site all chain) (rules_of go conds) ≡ true
rules_printed site all chain go act [] h = refl
rules_printed site all chain go act (c ∷ conds) h =
    let parts = and_parts (is_printed_cond site (shows_receiving chain) c) (list_all (is_printed_cond site (shows_receiving chain)) conds) h in
    and_from (is_printed_rule site all chain (record { cond = c; go = go })) (list_all (is_printed_rule site all chain) (rules_of go conds))
    (and_from (is_printed_cond site (shows_receiving chain) c) (is_printed_act all chain c go) parts.0 (act c))
    (rules_printed site all chain go act conds parts.1)

kid_rules_printed : (site : Site) (all : List IptChain) (chain : IptChain) (coming : Coming) (field : PacketField) (acts : List IptGo) → ((k : ℕ) → k < length acts → (cond : List Lit) → is_printed_act all chain cond (act_at acts k) ≡ true)
    → (kids : List Kid) (rules : List IptRule) → AllByRecursion (λ kid. kid.node < length acts) kids → AreKidRules coming field acts kids rules → list_all (is_printed_rule site all chain) rules ≡ true
kid_rules_printed site all chain coming field acts act [] rules below h = ap (λ l. list_all (is_printed_rule site all chain) l) h
kid_rules_printed site all chain coming field acts act (k ∷ kids) rules below h =
    let go = act_at acts k.node in
    ap (λ l. list_all (is_printed_rule site all chain) l) h.2 ∙ list_all-append (is_printed_rule site all chain) (rules_of go h.0) h.1
    ∙ and_from (list_all (is_printed_rule site all chain) (rules_of go h.0)) (list_all (is_printed_rule site all chain) h.1)
    (rules_printed site all chain go (act k.node below.0) h.0 (h.3.printed site (shows_receiving chain)))
    (kid_rules_printed site all chain coming field acts act kids h.1 below.1 h.4)

each_split : (P : Kid → Type 0) (front back : List Kid) (other : Kid) → AllByRecursion P (front ++ other ∷ back) → AllByRecursion P (front ++ back) × P other
each_split P [] back other h = (h.1, h.0)
each_split P (k ∷ front) back other h = let r = each_split P front back other h.1 in ((h.0, r.0), r.1)

cut_rules_printed : (site : Site) (all : List IptChain) (chain : IptChain) (coming : Coming) (seen : Seen) (f : ℕ) (acts : List IptGo) → ((k : ℕ) → k < length acts → (cond : List Lit) → is_printed_act all chain cond (act_at acts k) ≡ true)
    → (kids : List Kid) (rules : List IptRule) → AllByRecursion (λ kid. kid.node < length acts) kids → AreCutRules seen f coming acts kids rules → list_all (is_printed_rule site all chain) rules ≡ true
cut_rules_printed site all chain coming seen f acts act kids rules below made =
    let test = is_printed_rule site all chain in
    let last : List IptRule = record { cond = []; go = act_at acts made.other.node } ∷ [] in
    let parts = each_split (λ kid. kid.node < length acts) made.front made.back made.other (subst (λ l. AllByRecursion (λ kid. kid.node < length acts) l) made.split below) in
    ap (λ l. list_all test l) made.all ∙ list_all-append test made.tests last
    ∙ and_from (list_all test made.tests) (list_all test last)
    (of_tests made.tests (made.front ++ made.back) parts.0 (seen_field seen f) made.sorted)
    (and_from (is_printed_act all chain [] (act_at acts made.other.node)) true (act made.other.node parts.1 []) refl)
  where
    of_tests : (tests : List IptRule) (others : List Kid) → AllByRecursion (λ kid. kid.node < length acts) others → (o : Option PacketField) → MatchOption o (tests ≡ []) (λ field. AreKidRules coming field acts others tests) → list_all (is_printed_rule site all chain) tests ≡ true
    of_tests tests others low None h = ap (λ l. list_all (is_printed_rule site all chain) l) h
    of_tests tests others low (Some field) h = kid_rules_printed site all chain coming field acts act others tests low h

policy_printed : (table : IptTable) → is_printed_policy table None ≡ true
policy_printed Filter = refl
policy_printed Nat = refl
policy_printed Mangle = refl

chain_printed : (site : Site) (all : List IptChain) (table : IptTable) (number : ℕ) (seen : Seen) (f : ℕ) (coming : Coming) (acts : List IptGo) (kids : List Kid) (chain : IptChain)
    → ((k : ℕ) → k < length acts → (cond : List Lit) → is_printed_act all chain cond (act_at acts k) ≡ true) → AllByRecursion (λ kid. kid.node < length acts) kids
    → IsCutChain table number seen f coming acts kids chain → is_printed_chain site all chain ≡ true
chain_printed site all table number seen f coming acts kids chain act below is =
    and_from ((is_some chain.policy || is_chain_name chain.name) && is_printed_policy chain.table chain.policy) (list_all (is_printed_rule site all chain) chain.rules)
    (and_from (is_some chain.policy || is_chain_name chain.name) (is_printed_policy chain.table chain.policy)
    (or_right (is_some chain.policy) (is_chain_name chain.name) is.name_is)
    (ap (λ o. is_printed_policy chain.table o) is.policy_is ∙ policy_printed chain.table))
    (cut_rules_printed site all chain coming seen f acts act kids chain.rules below is.rules)

-- ---- one node more

get_pushed : {X : Type 0} (xs : List X) (y : X) (k : ℕ) (x : X) → slice_get (xs ++ y ∷ []) k ≡ Some x → (slice_get xs k ≡ Some x) ⊎ ((k ≡ length xs) × (y ≡ x))
get_pushed [] y zero x e = inr (refl, same_Some y x e)
get_pushed [] y (suc k) x e = absurd (none-some x e)
get_pushed (z ∷ xs) y zero x e = inl e
get_pushed (z ∷ xs) y (suc k) x e = elim (get_pushed xs y k x e) [ inl a ↦ inl a | inr b ↦ inr (ap suc b.0, b.1) ]

block_more : (site : Site) (table : IptTable) (old chains : List IptChain) (chain : IptChain) → IsBlock site table old chains → chain.table ≡ table → chain.policy ≡ None
    → ((further : List IptChain) → is_printed_chain site ((chains ++ chain ∷ []) ++ further) chain ≡ true) → EndsInNumber (length chains) chain.name → IsBlock site table old (chains ++ chain ∷ [])
block_more site table old chains chain b table-is policy-is printed named = record {
  block = b.block ++ chain ∷ [];
  extends = ap (λ l. l ++ chain ∷ []) b.extends ∙ append_assoc old b.block (chain ∷ []);
  of_table = All-push (λ c. (c.table ≡ table) × (c.policy ≡ None)) b.block chain b.of_table (table-is, policy-is);
  printed = λ further. All-push (λ c. is_printed_chain site ((chains ++ chain ∷ []) ++ further) c ≡ true) b.block chain
      (subst (λ l. All (λ c. is_printed_chain site l c ≡ true) b.block) (sym (append_assoc chains (chain ∷ []) further)) (b.printed (chain ∷ further))) (printed further);
  named = λ k c at. elim (get_pushed b.block chain k c at) [
    | inl a ↦ b.named k c a
    | inr e ↦ (let n : length chains ≡ length old + k = ap (λ (l : List IptChain). length l) b.extends ∙ length-append old b.block ∙ ap (λ m. length old + m) (sym e.0) in
        subst (λ (d : IptChain). EndsInNumber (length old + k) d.name) e.1 (subst (λ m. EndsInNumber m chain.name) n named))
  ];
}

acts_push : (site : Site) (seen : Seen) (table : IptTable) (least before : ℕ) (chains more : List IptChain) (comings : List Coming) (leaves : List Verdict) (nodes : List Node) (acts : List IptGo) (go : IptGo)
    → AreActs site seen table least before chains comings leaves nodes acts
    → Decides (tops_of site) seen least before (chains ++ more) (coming_at comings (length acts)) (subtree_of leaves nodes (length acts)) go → IsPrintedAct table (chains ++ more) go
    → AreActs site seen table least before (chains ++ more) comings leaves nodes (acts ++ go ∷ [])
acts_push site seen table least before chains more comings leaves nodes acts go h d p = record {
  decides = λ k lt. elim (cases_eq k (length acts)) [
    | inl e ↦ (let P : ℕ → IptGo → Type 0 = λ i g. Decides (tops_of site) seen least before (chains ++ more) (coming_at comings i) (subtree_of leaves nodes i) g in
        let here : act_at (acts ++ go ∷ []) k ≡ go = get_or_push acts go goes.Drop k (sym e) in
        subst (λ g. P k g) (sym here) (subst (λ i. P i go) (sym e) d))
    | inr ne ↦ (let low : k < length acts = omega (arith, length-append acts (go ∷ []), ne) in
        subst (λ g. Decides (tops_of site) seen least before (chains ++ more) (coming_at comings k) (subtree_of leaves nodes k) g) (sym (get_or_append_left acts (go ∷ []) goes.Drop k low))
        (decides_more (tops_of site) seen least before chains more (coming_at comings k) (subtree_of leaves nodes k) (act_at acts k) (h.decides k low)))
  ];
  printed = λ k lt. elim (cases_eq k (length acts)) [
    | inl e ↦ subst (λ g. IsPrintedAct table (chains ++ more) g) (sym (get_or_push acts go goes.Drop k (sym e))) p
    | inr ne ↦ (let low : k < length acts = omega (arith, length-append acts (go ∷ []), ne) in
        subst (λ g. IsPrintedAct table (chains ++ more) g) (sym (get_or_append_left acts (go ∷ []) goes.Drop k low))
        (printed_more table chains more (act_at acts k) (h.printed k low)))
  ];
}

marks_more : (table : IptTable) (least : ℕ) (chains more : List IptChain) (a : Verdict) → HasMarkChains table least chains (leaf a) → HasMarkChains table least (chains ++ more) (leaf a)
marks_more table least chains more Accept h = h
marks_more table least chains more Drop h = h
marks_more table least chains more (Mark v) h = mark_chain_more table least chains more v h

-- the marks of a subtree are marks of the tree
mutual
  pub marks_below : (table : IptTable) (least : ℕ) (chains : List IptChain) (u t : Plain Verdict) → IsSubtree u t → HasMarkChains table least chains t → HasMarkChains table least chains u
  marks_below table least chains u (leaf a) s h = subst (λ t. HasMarkChains table least chains t) (sym s) h
  marks_below table least chains u (cut f ks) (inl e) h = subst (λ t. HasMarkChains table least chains t) (sym e) h
  marks_below table least chains u (cut f ks) (inr s) h = marks_in table least chains u ks s h

  marks_in : (table : IptTable) (least : ℕ) (chains : List IptChain) (u : Plain Verdict) (ks : Kids Verdict) → IsKidSubtree u ks → HaveMarkChains table least chains ks → HasMarkChains table least chains u
  marks_in table least chains u none s h = absurd s
  marks_in table least chains u (kid r t ks) (inl a) h = marks_below table least chains u t a h.0
  marks_in table least chains u (kid r t ks) (inr b) h = marks_in table least chains u ks b h.1

-- what is known of all nodes
pub record Scene (site : Site) (seen : Seen) (table : IptTable) (least : ℕ) (old : List IptChain) (t : Plain Verdict) (comings : List Coming) (leaves : List Verdict) (nodes : List Node) : Type 0 where
  pub shared : IsShared (tops_of site) t leaves nodes
  pub marks : HasMarkChains table least old t
  pub low : least ≤ length old
  pub other : table ≢ Nat
  pub comes : AreComings nodes comings

-- the act of one node more, and its chain
pub node_made : Sight → (site : Site) (seen : Seen) (table : IptTable) (least : ℕ) (old : List IptChain) (t : Plain Verdict) (comings : List Coming) (leaves : List Verdict) (nodes : List Node)
    → Scene site seen table least old t comings leaves nodes
    → (chains new : List IptChain) (acts : List IptGo) (go : IptGo) (node : Node) → slice_get nodes (length acts) ≡ Some node
    → IsBlock site table old chains → AreActs site seen table least (length old) chains comings leaves nodes acts
    → IsNodePut table seen leaves (coming_at comings (length acts)) acts node chains new go
    → IsBlock site table old new × AreActs site seen table least (length old) new comings leaves nodes (acts ++ go ∷ [])
node_made sight site seen table least old t comings leaves nodes scene chains new acts go (Leaf n) at b h put =
    let k : ℕ = length acts in
    let lt = slice_get_within nodes k (Leaf n) at in
    let is-leaf = sight.leaves (tops_of site) t leaves nodes k n scene.shared at in
    let a : Verdict = is-leaf.0 in
    let there : slice_get leaves n ≡ Some a = is-leaf.1 in
    let tree : subtree_of leaves nodes k ≡ leaf a = is-leaf.2 in
    let marked : HasMarkChains table least old (leaf a) = subst (λ u. HasMarkChains table least old u) tree (marks_below table least old (subtree_of leaves nodes k) t (scene.shared.within k lt) scene.marks) in
    let now : HasMarkChains table least chains (leaf a) = subst (λ l. HasMarkChains table least l (leaf a)) (sym b.extends) (marks_more table least old b.block a marked) in
    let long : length old ≤ length chains = (let l = ap (λ (l : List IptChain). length l) b.extends in let m = length-append old b.block in omega arith) in
    let is : new ≡ chains ++ [] = put.0 ∙ sym (append-nil chains) in
    let does : leaf_act a ≡ go = sym (put.1 a there) in
    let grown : HasMarkChains table least (chains ++ []) (leaf a) = marks_more table least chains [] a now in
    let long' : length old ≤ length (chains ++ []) = (let l = length-append chains [] in omega arith) in
    let d = leaf_decides (tops_of site) seen table least (length old) (chains ++ []) (coming_at comings k) a long' grown in
    let D : Plain Verdict → IptGo → Type 0 = λ u g. Decides (tops_of site) seen least (length old) (chains ++ []) (coming_at comings k) u g in
    let made = acts_push site seen table least (length old) chains [] comings leaves nodes acts go h
    (subst (λ g. D (subtree_of leaves nodes k) g) does (subst (λ u. D u (leaf_act a)) (sym tree) d))
    (subst (λ g. IsPrintedAct table (chains ++ []) g) does (leaf_printed table least (chains ++ []) a scene.other grown)) in (
      subst (λ l. IsBlock site table old l) (sym put.0) b,
      subst (λ l. AreActs site seen table least (length old) l comings leaves nodes (acts ++ go ∷ [])) (sym is) made,
    )
node_made sight site seen table least old t comings leaves nodes scene chains new acts go (Cut f kids) at b h put =
    let k : ℕ = length acts in
    let chain = put.chain in
    let node = sight.cuts (tops_of site) t leaves nodes k f kids scene.shared at in
    let below = node.before in
    let tree : ℕ → Plain Verdict = λ n. subtree_of leaves nodes n in
    let is-fit = fit_cut sight site seen leaves nodes k f kids node in
    let long : length old ≤ length chains = (let l = ap (λ (l : List IptChain). length l) b.extends in let m = length-append old b.block in omega arith) in
    let low = scene.low in
    let all-below : All (λ kid. kid.node < k) kids = All-from_recursion (λ kid. kid.node < k) kids below in
    let d = cut_decides sight (tops_of site) seen least (length old) f chains chain (coming_at comings k) (λ n. coming_at comings n) acts tree kids (omega arith) long
    (λ field e. ((sight.agree seen f field e).top site, is-fit.parted field e)) (scene.comes.flows k (slice_get_within nodes k (Cut f kids) at) f kids at)
    (λ i x lt. h.decides (slice_index_or kids i x).node (all-below i x lt)) put.is.rules in
    let act : (further : List IptChain) (i : ℕ) → i < length acts → (cond : List Lit) → is_printed_act ((chains ++ chain ∷ []) ++ further) chain cond (act_at acts i) ≡ true
    = λ further i lt cond. printed_more table chains (chain ∷ []) (act_at acts i) (h.printed i lt) further chain cond put.is.table_is in
    let D : Plain Verdict → IptGo → Type 0 = λ u g. Decides (tops_of site) seen least (length old) (chains ++ chain ∷ []) (coming_at comings k) u g in
    let made = acts_push site seen table least (length old) chains (chain ∷ []) comings leaves nodes acts go h
    (subst (λ g. D (subtree_of leaves nodes k) g) (sym put.enters) (subst (λ u. D u (goes.Goto (length chains))) (sym node.tree) d))
    (subst (λ g. IsPrintedAct table (chains ++ chain ∷ []) g) (sym put.enters) (cut_printed table chains chain put.is.table_is put.is.policy_is)) in (
      subst (λ l. IsBlock site table old l) (sym put.extends)
          (block_more site table old chains chain b put.is.table_is put.is.policy_is
          (λ further. chain_printed site ((chains ++ chain ∷ []) ++ further) table (length chains) seen f (coming_at comings k) acts kids chain (act further) below put.is) put.is.named),
      subst (λ l. AreActs site seen table least (length old) l comings leaves nodes (acts ++ go ∷ [])) (sym put.extends) made,
    )
