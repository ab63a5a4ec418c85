-- What holds of the branches of a tree.
use Rattle.std.proofs.Common.{◌≡◌, ◌≢◌, ℕ, ◌+◌, ◌-◌, ◌<◌, ◌≤◌, Bool, true, false, ◌&&◌, ◌||◌, cond, Some, List, [], ◌∷◌, length, get_or, slice_get, inl, inr, refl, sym, ◌∙◌, ap, subst, arith}
use Rattle.std.proofs.lemmas.Bool.{cond-false, false≢true, le-leb, leb-true, ne_eqb, and_parts, or_cases}
use Rattle.std.proofs.lemmas.List.Elements.{All-map, All-nil, All-cons, All-from_recursion}
use Rattle.std.proofs.lemmas.List.Sums.{sum_by-cons}
use Rattle.std.proofs.lemmas.Option.{slice_get-get_or, slice_get_within}
use Rattle.std.specs.List.{count_by}
use Rattle.std.specs.Prelude.{map, nat_eq, nat_le, slice_index, slice_index_or}
use Rattle.fws_iv.specs.declared.iv.Iv.{Iv}
use Rattle.fws_iv.specs.Ivs.{has}
use Rattle.fws_net.specs.declared.site.Site.{Site}
use Rattle.fws_ipt.specs.declared.config.IptChain.{IptChain}
use Rattle.fws_ipt.specs.declared.config.IptGo.{IptGo}
use Rattle.fws_ipt.specs.declared.config.IptTable.{IptTable}
use Rattle.fws_tree.specs.declared.node.Kid.{Kid}
use Rattle.fws_tree.specs.declared.node.Node.{Node}
use Rattle.fws_tree.specs.declared.node.Node.TheVariants.{Leaf, Cut}
use Rattle.fws_tree.specs.Plain.{Plain, cut, Kids, branch, kid_at, IsReduced}
use Rattle.fws_tree.specs.Shared.{IsShared, subtree_of}
use Rattle.fws_tree_seen.specs.declared.seen.Seen.{Seen}
use Rattle.fws_tree_seen.specs.Cuts.{kids_of, IsCutNode}
use Rattle.fws_ipt_put_chains.specs.declared.coming.Coming.{Coming}
use Rattle.fws_ipt_put_chains.specs.declared.verdict.Branch.{Branch}
use Rattle.fws_ipt_put_chains.specs.declared.verdict.Verdict.{Verdict}
use Rattle.fws_ipt_put_chains.specs.Acts.{AreActs, branch_of}
use Rattle.fws_ipt_put_chains.specs.Blocks.{IsBlock, IsPrintedAct}
use Rattle.fws_ipt_put_chains.specs.Branches.{Leads, PartEntries}
use Rattle.fws_ipt_put_chains.specs.Comings.{both, coming_at, AreComings, IsCovered}
use Rattle.fws_ipt_put_chains.specs.Planned.{ArePut, IsPlanned, KeepsEntry}
use Rattle.fws_ipt_put_chains.specs.Reached.{Decides}
use Rattle.fws_ipt_put_chains.specs.Rules.{act_at}
use Rattle.fws_ipt_put_chains.proofs.Sight.{WholeSight}
use Rattle.fws_ipt_put_chains.proofs.Flowing.{covered-then}
use Rattle.fws_ipt_put_chains.proofs.Led.{led}

counted_map : {X Y : Type 0} (p : Y → Bool) (f : X → Y) (xs : List X) → count_by p (map f xs) ≡ count_by (λ x. p (f x)) xs
counted_map p f [] = refl
counted_map p f (x ∷ xs) = sum_by-cons (λ y. cond (p y) 1 0) (f x) (map f xs) ∙ ap (λ n. cond (p (f x)) 1 0 + n) (counted_map p f xs) ∙ sym (sum_by-cons (λ x. cond (p (f x)) 1 0) x xs)

-- ---- a tree that cuts the entry

kids_part : (tops : List ℕ) (leaves : List Verdict) (nodes : List Node) (last : ℕ) (kids : List Kid) (acts : List IptGo) → IsCutNode tops leaves nodes last 0 kids → PartEntries (slice_index tops 0) (map (branch_of acts) kids)
kids_part tops leaves nodes last kids acts node =
    let top : ℕ = slice_index tops 0 in
    record {
      once = λ e le. counted_map (λ b. has b.entries e) (branch_of acts) kids ∙ node.parted e ∙ ap (λ b. cond b 1 0) (le-leb e top le);
      some = All-map (λ b. b.entries ≢ []) (branch_of acts) kids (λ k d lt is.
          let x = node.filled k (slice_index_or kids k d) (slice_get-get_or kids k d lt) in
          false≢true (sym (ap (λ l. has l x.0) is) ∙ x.1));
      within = λ e. All-map (λ b. has b.entries e ≡ true → e ≤ top) (branch_of acts) kids (λ k d lt h. node.within k e (slice_index_or kids k d) (slice_get-get_or kids k d lt) h);
    }

-- the whole tree is reduced
whole_reduced : (tops : List ℕ) (t : Plain Verdict) (leaves : List Verdict) (nodes : List Node) → IsShared tops t leaves nodes → IsReduced tops t
whole_reduced tops t leaves nodes shared = let some = shared.some in subst (λ u. IsReduced tops u) (sym shared.last) (shared.reduced (length nodes - 1) (omega (arith, some)))

pub entry_put : WholeSight → (site : Site) (tops : List ℕ) (t : Plain Verdict) (table : IptTable) (front : List ℕ) (seen : Seen) (least : ℕ) (old new : List IptChain) (leaves : List Verdict) (nodes : List Node) (comings : List Coming) (acts : List IptGo) (kids : List Kid)
    → IsPlanned site tops t table front seen least old leaves nodes → AreComings nodes comings → slice_get nodes (length nodes - 1) ≡ Some (Cut 0 kids)
    → IsBlock site table old new → AreActs site seen table least (length old) new comings leaves nodes acts → length acts ≡ length nodes - 1
    → ArePut site tops t table seen least old new (map (branch_of acts) kids)
entry_put sight site tops t table front seen least old new leaves nodes comings acts kids planned comes at block made size =
    let tree : ℕ → Plain Verdict = λ n. subtree_of leaves nodes n in
    let last : ℕ = length nodes - 1 in
    let lt : last < length nodes = slice_get_within nodes last (Cut 0 kids) at in
    let shared = planned.shared in
    let node = sight.cuts tops t leaves nodes last 0 kids shared at in
    let is : t ≡ cut 0 (kids_of tree kids) = shared.last ∙ node.tree in
    let below = All-from_recursion (λ kid. kid.node < last) kids node.before in
    record {
      block = block;
      leads = All-map (Leads tops t seen least (length old) (length new) new) (branch_of acts) kids (λ k d within.
          let kid = slice_index_or kids k d in
          let there : slice_get kids k ≡ Some kid = slice_get-get_or kids k d within in
          let low : kid.node < length acts = (let b = below k d within in omega (arith, b, size)) in
          let covered : IsCovered both (coming_at comings kid.node) = covered-then both (coming_at comings last) (coming_at comings kid.node) (comes.last last (omega arith)) (comes.flows last lt 0 kids at k d within) in
          led sight.points seen tops t (tree kid.node) least (length old) new (coming_at comings kid.node) kid.set (act_at acts kid.node) planned.told (ap (λ (l : List ℕ). length l) planned.tops_are)
          (whole_reduced tops t leaves nodes shared)
          (λ x0 h. ap (λ u. branch 0 u x0) is ∙ node.found k x0 kid there h) covered
          (subst (λ l. Decides l seen least (length old) new (coming_at comings kid.node) (tree kid.node) (act_at acts kid.node)) (sym planned.tops_are) (made.decides kid.node low)));
      printed = All-map (λ b. IsPrintedAct table new b.go) (branch_of acts) kids (λ k d within.
          let b = below k d within in made.printed (slice_index_or kids k d).node (omega (arith, b, size)));
      whole = subst (λ n. PartEntries n (map (branch_of acts) kids)) (ap (λ l. slice_index l 0) planned.tops_are) (kids_part tops leaves nodes last kids acts node);
    }

-- ---- a tree that doesn't cut the entry

one_part : (top : ℕ) (go : IptGo) → PartEntries top (record { entries = record { lo = 0; hi = top } ∷ []; go = go } ∷ [])
one_part top go =
    let b : Branch = record { entries = record { lo = 0; hi = top } ∷ []; go = go } in
    record {
      once = λ e le. sum_by-cons (λ (d : Branch). cond (has d.entries e) 1 0) b [] ∙ ap (λ x. cond ((nat_le 0 e && x) || false) 1 0 + 0) (le-leb e top le) ∙ ap (λ x. cond ((x && true) || false) 1 0 + 0) (le-leb 0 e (omega arith));
      some = All-cons (λ (d : Branch). d.entries ≢ []) b [] (λ e. absurd (cc)) (All-nil (λ (d : Branch). d.entries ≢ []));
      within = λ e. All-cons (λ (d : Branch). has d.entries e ≡ true → e ≤ top) b []
          (λ h. elim (or_cases (nat_le 0 e && nat_le e top) false h) [ inl a ↦ leb-true e top (and_parts (nat_le 0 e) (nat_le e top) a).1 | inr z ↦ absurd (false≢true z) ])
          (All-nil (λ (d : Branch). has d.entries e ≡ true → e ≤ top));
    }

left_whole : WholeSight → (tops : List ℕ) (leaves : List Verdict) (nodes : List Node) (t : Plain Verdict) (k : ℕ) (node : Node) → IsShared tops t leaves nodes → slice_get nodes k ≡ Some node → KeepsEntry node
    → (x0 : ℕ) → branch 0 (subtree_of leaves nodes k) x0 ≡ subtree_of leaves nodes k
left_whole sight tops leaves nodes t k (Leaf n) shared at keeps =
    let is = (sight.leaves tops t leaves nodes k n shared at).2 in
    λ x0. ap (λ u. branch 0 u x0) is ∙ sym is
left_whole sight tops leaves nodes t k (Cut f kids) shared at keeps =
    let ks : Kids Verdict = kids_of (λ n. subtree_of leaves nodes n) kids in
    let is = (sight.cuts tops t leaves nodes k f kids shared at).tree in
    λ x0. ap (λ u. branch 0 u x0) is ∙ cond-false (nat_eq f 0) (kid_at ks x0) (cut f ks) (ne_eqb f 0 keeps) ∙ sym is

pub whole_put : WholeSight → (site : Site) (tops : List ℕ) (t : Plain Verdict) (table : IptTable) (front : List ℕ) (seen : Seen) (least : ℕ) (old new : List IptChain) (leaves : List Verdict) (nodes : List Node) (comings : List Coming) (acts : List IptGo)
    → IsPlanned site tops t table front seen least old leaves nodes → AreComings nodes comings → ((node : Node) → slice_get nodes (length nodes - 1) ≡ Some node → KeepsEntry node)
    → IsBlock site table old new → AreActs site seen table least (length old) new comings leaves nodes acts → length acts ≡ length nodes
    → ArePut site tops t table seen least old new (record { entries = record { lo = 0; hi = length site.faces + 1 } ∷ []; go = act_at acts (length nodes - 1) } ∷ [])
whole_put sight site tops t table front seen least old new leaves nodes comings acts planned comes keeps block made size =
    let last : ℕ = length nodes - 1 in
    let top : ℕ = length site.faces + 1 in
    let shared = planned.shared in
    let some = shared.some in
    let lt : last < length nodes = omega arith in
    let low : last < length acts = omega (arith, size) in
    let node : Node = get_or nodes last (Leaf 0) in
    let at : slice_get nodes last ≡ Some node = slice_get-get_or nodes last (Leaf 0) lt in
    let left = left_whole sight tops leaves nodes t last node shared at (keeps node at) in
    let go = act_at acts last in
    let entries : List Iv = record { lo = 0; hi = top } ∷ [] in
    let b : Branch = record { entries = entries; go = go } in
    let D : Plain Verdict → Type 0 = λ u. Decides tops seen least (length old) new (coming_at comings last) u go in
    let decides : D (subtree_of leaves nodes last) = subst (λ l. Decides l seen least (length old) new (coming_at comings last) (subtree_of leaves nodes last) go) (sym planned.tops_are) (made.decides last low) in
    record {
      block = block;
      leads = All-cons (Leads tops t seen least (length old) (length new) new) b []
          (led sight.points seen tops t (subtree_of leaves nodes last) least (length old) new (coming_at comings last) entries go planned.told (ap (λ (l : List ℕ). length l) planned.tops_are)
          (whole_reduced tops t leaves nodes shared) (λ x0 h. ap (λ u. branch 0 u x0) shared.last ∙ left x0) (comes.last last (omega arith)) decides)
          (All-nil (Leads tops t seen least (length old) (length new) new));
      printed = All-cons (λ (d : Branch). IsPrintedAct table new d.go) b [] (made.printed last low) (All-nil (λ (d : Branch). IsPrintedAct table new d.go));
      whole = one_part top go;
    }
