-- The chain of a cut decides as its tree does.
use Rattle.std.proofs.Common.{◌≡◌, ◌⊎◌, ℕ, zero, suc, ◌+◌, ◌<◌, ◌≤◌, Bool, true, false, ◌&&◌, Option, Some, None, List, [], ◌∷◌, ◌++◌, length, inl, inr, refl, sym, ◌∙◌, ap, subst, arith, append_assoc, length-append}
use Rattle.std.proofs.lemmas.Bool.{cond-false, false_from_ne_true, eqb-true}
use Rattle.std.proofs.lemmas.List.Elements.{All-weaker, recursion_from_All, All-cons}
use Rattle.std.proofs.lemmas.List.Folds.{list_any_none}
use Rattle.std.specs.List.{AllByRecursion, list_any}
use Rattle.std.specs.Option.{option_map_or}
use Rattle.std.specs.Prelude.{nat_eq, slice_get, slice_index, slice_index_or, is_none, All, MatchOption}
use Rattle.fws_net.specs.declared.packet.Packet.{Packet}
use Rattle.fws_net.specs.declared.site.Site.{Site}
use Rattle.fws_ipt.specs.declared.config.IptChain.{IptChain}
use Rattle.fws_ipt.specs.declared.config.IptGo.{IptGo}
use Rattle.fws_ipt.specs.declared.config.IptGo.TheVariants as goes
use Rattle.fws_ipt.specs.declared.config.IptRule.{IptRule}
use Rattle.fws_ipt.specs.declared.config.IptTable.{IptTable}
use Rattle.fws_ipt.specs.declared.hook.Hook.{Hook}
use Rattle.fws_ipt.specs.declared.passage.ChainEnd.{ChainEnd}
use Rattle.fws_ipt.specs.declared.passage.ChainEnd.TheVariants as ends
use Rattle.fws_ipt.specs.declared.passage.Passage.{Passage}
use Rattle.fws_ipt.specs.Walk.{act, chain_walk, is_table, rules_at, rules_walk, view_at}
use Rattle.fws_tree.specs.declared.node.Kid.{Kid}
use Rattle.fws_tree.specs.Plain.{Plain, leaf, cut}
use Rattle.fws_tree_seen.specs.declared.field.PacketField.{PacketField}
use Rattle.fws_tree_seen.specs.declared.seen.Seen.{Seen}
use Rattle.fws_tree_seen.specs.Cuts.{PartValues, kids_of}
use Rattle.fws_tree_seen.specs.Fields.{top_of}
use Rattle.fws_tree_seen.specs.Reached.{IsOpen, IsTopped, Reaches, ReachesKid}
use Rattle.fws_tree_seen.specs.Shown.{seen_field, value_of}
use Rattle.fws_ipt_put_chains.specs.declared.coming.Coming.{Coming}
use Rattle.fws_ipt_put_chains.specs.declared.verdict.Verdict.{Verdict}
use Rattle.fws_ipt_put_chains.specs.declared.verdict.Verdict.TheVariants.{Accept, Drop, Mark}
use Rattle.fws_ipt_put_chains.specs.Acts.{leaf_act}
use Rattle.fws_ipt_put_chains.specs.Branches.{verdict_end, HasMarkChains, IsMarkChain}
use Rattle.fws_ipt_put_chains.specs.Comings.{narrowed, IsCovered}
use Rattle.fws_ipt_put_chains.specs.Pieces.{may_come, MayMeet}
use Rattle.fws_ipt_put_chains.specs.Reached.{Decides, LeavesOut}
use Rattle.fws_ipt_put_chains.specs.Rules.{act_at, AreCutRules, AreKidRules}
use Rattle.fws_ipt_put_chains.proofs.Flowing.{may_narrow, may_cover}
use Rattle.fws_ipt_put_chains.proofs.Sight.{open_proto, Sight}
use Rattle.fws_ipt_put_chains.proofs.Walked.{Answers, walk_kids}

-- ---- chains by their numbers

pub get_left : {X : Type 0} (xs ys : List X) (k : ℕ) → k < length xs → slice_get (xs ++ ys) k ≡ slice_get xs k
get_left [] ys k lt = absurd (omega arith)
get_left (x ∷ xs) ys zero lt = refl
get_left (x ∷ xs) ys (suc k) lt = get_left xs ys k (omega arith)

pub get_last : {X : Type 0} (xs : List X) (y : X) (ys : List X) → slice_get ((xs ++ y ∷ []) ++ ys) (length xs) ≡ Some y
get_last [] y ys = refl
get_last (x ∷ xs) y ys = get_last xs y ys

rules_left : (chains further : List IptChain) (c : ℕ) → c < length chains → rules_at (chains ++ further) c ≡ rules_at chains c
rules_left chains further c lt = ap (λ (o : Option IptChain). option_map_or (λ chain. chain.rules) o []) (get_left chains further c lt)

rules_last : (chains : List IptChain) (chain : IptChain) (further : List IptChain) → rules_at ((chains ++ chain ∷ []) ++ further) (length chains) ≡ chain.rules
rules_last chains chain further = ap (λ (o : Option IptChain). option_map_or (λ chain. chain.rules) o []) (get_last chains chain further)

-- a number that the path leaves out isn't met
not_met : (least number : ℕ) (path : List ℕ) (c : ℕ) → LeavesOut least number path → least ≤ c → c < number → list_any (nat_eq c) path ≡ false
not_met least number path c out le lt = list_any_none (nat_eq c) path
    (All-weaker (λ d. (d < least) ⊎ (number ≤ d)) (λ d. nat_eq c d ≡ false)
    (λ d h. false_from_ne_true (nat_eq c d) (λ y. let e : c ≡ d = eqb-true c d y in elim h [ inl a ↦ absurd (omega arith) | inr b ↦ absurd (omega arith) ])) path out)

-- ---- what still holds with further chains

pub decides_more : (tops : List ℕ) (seen : Seen) (least before : ℕ) (chains more : List IptChain) (coming : Coming) (t : Plain Verdict) (go : IptGo)
    → Decides tops seen least before chains coming t go → Decides tops seen least before (chains ++ more) coming t go
decides_more tops seen least before chains more coming t go d = record {
  at = λ further site p is_est hook n path next m size out comes topped.
      let longer = length-append chains more in
      let path' = All-weaker (λ c. (c < least) ⊎ (length (chains ++ more) ≤ c)) (λ c. (c < least) ⊎ (length chains ≤ c))
      (λ c h. elim h [ inl a ↦ inl a | inr b ↦ inr (omega arith) ]) path out in
      let r = d.at (more ++ further) site p is_est hook n path next m (omega arith) path' comes topped in
      (r.0, r.1, ap (λ l. act (chain_walk l site p is_est hook n path) next site p hook go m) (append_assoc chains more further) ∙ r.2);
}

-- ---- leaves

pub mark_chain_more : (table : IptTable) (least : ℕ) (chains more : List IptChain) (v : ℕ) → IsMarkChain table least chains v → IsMarkChain table least (chains ++ more) v
mark_chain_more table least chains more v h =
    let longer = length-append chains more in
    let P : Option IptChain → Type 0 = λ o. option_map_or (λ chain. is_table table chain.table && is_none chain.policy) o false ≡ true in
    record {
      late = h.late;
      there = omega (arith, h.there);
      rules = rules_left chains more v h.there ∙ h.rules;
      user = subst P (sym (get_left chains more v h.there)) h.user;
    }

pub leaf_decides : (tops : List ℕ) (seen : Seen) (table : IptTable) (least before : ℕ) (chains : List IptChain) (coming : Coming) (a : Verdict)
    → before ≤ length chains → HasMarkChains table least chains (leaf a) → Decides tops seen least before chains coming (leaf a) (leaf_act a)
leaf_decides tops seen table least before chains coming Accept le h = record { at = λ further site p is_est hook n path next m size out comes topped. (Accept, refl, refl) }
leaf_decides tops seen table least before chains coming Drop le h = record { at = λ further site p is_est hook n path next m size out comes topped. (Drop, refl, refl) }
leaf_decides tops seen table least before chains coming (Mark v) le h = record {
  at = λ further site p is_est hook n path next m size out comes topped.
      (Mark v, refl, marked further site p is_est hook n path m (omega arith) (not_met least (length chains) path v out h.late h.there));
}
  where
    marked : (further : List IptChain) (site : Site) (p : Packet) (is_est : Bool) (hook : Hook) (n : ℕ) (path : List ℕ) (m : Passage)
        → 0 < n → list_any (nat_eq v) path ≡ false → chain_walk (chains ++ further) site p is_est hook n path v m ≡ verdict_end (Mark v) m
    marked further site p is_est hook zero path m lt e = absurd (omega arith)
    marked further site p is_est hook (suc n) path m lt e =
        let enter : ℕ → Passage → ChainEnd = chain_walk (chains ++ further) site p is_est hook n (v ∷ path) in
        let rules = rules_at (chains ++ further) v in
        cond-false (list_any (nat_eq v) path) ends.Dropped (rules_walk enter site p is_est hook rules m) e
        ∙ ap (λ l. rules_walk enter site p is_est hook l m) (rules_left chains further v h.there ∙ h.rules)

-- ---- cuts

each_split : (P : Kid → Type 0) (front back : List Kid) (other : Kid) → AllByRecursion P (front ++ other ∷ back) → AllByRecursion P (front ++ back) × P other
each_split P [] back other h = (h.1, h.0)
each_split P (k ∷ front) back other h = let r = each_split P front back other h.1 in ((h.0, r.0), r.1)

-- what is known of the scene of a packet
record Scene (tops : List ℕ) (seen : Seen) (f : ℕ) (coming : Coming) (kids : List Kid) (q : Packet) : Type 0 where
  comes : may_come coming q.proto ≡ true
  topped : IsTopped tops seen q
  parted : (field : PacketField) → seen_field seen f ≡ Some field → (slice_index tops f ≡ top_of field) × PartValues (top_of field) kids

-- the rules of a cut decide by one of its kids that is open
rules_answer : Sight → (tops : List ℕ) (seen : Seen) (f : ℕ) (coming : Coming) (acts : List IptGo) (tree : ℕ → Plain Verdict)
    (enter : ℕ → Passage → ChainEnd) (site : Site) (p : Packet) (is_est : Bool) (hook : Hook) (m : Passage)
    (front back : List Kid) (other : Kid) (tests : List IptRule)
    → Scene tops seen f coming (front ++ other ∷ back) m.packet
    → AllByRecursion (λ kid. IsOpen seen m.packet f kid.set → (next : Passage → ChainEnd) → Answers (Reaches seen m.packet (tree kid.node)) m (act enter next site p hook (act_at acts kid.node) m)) (front ++ other ∷ back)
    → (o : Option PacketField) → seen_field seen f ≡ o → MatchOption o (tests ≡ []) (λ field. AreKidRules coming field acts (front ++ back) tests)
    → Answers (ReachesKid seen m.packet f (kids_of tree (front ++ other ∷ back))) m (rules_walk enter site p is_est hook (tests ++ record { cond = []; go = act_at acts other.node } ∷ []) m)
rules_answer sight tops seen f coming acts tree enter site p is_est hook m front back other tests scene each None e sorted =
    let q = m.packet in
    let last : List IptRule = record { cond = []; go = act_at acts other.node } ∷ [] in
    let open' : IsOpen seen q f other.set = sight.unseen seen f q other.set e in
    let a = (each_split (λ kid. IsOpen seen q f kid.set → (next : Passage → ChainEnd) → Answers (Reaches seen q (tree kid.node)) m (act enter next site p hook (act_at acts kid.node) m)) front back other each).1 open' (rules_walk enter site p is_est hook []) in
    (a.0, sight.reached seen q f a.0 tree front back other (inr (open', a.1)), ap (λ l. rules_walk enter site p is_est hook (l ++ last) m) sorted ∙ a.2)
rules_answer sight tops seen f coming acts tree enter site p is_est hook m front back other tests scene each (Some field) e sorted =
    let q = m.packet in
    let last : List IptRule = record { cond = []; go = act_at acts other.node } ∷ [] in
    let parts = each_split (λ kid. IsOpen seen q f kid.set → (next : Passage → ChainEnd) → Answers (Reaches seen q (tree kid.node)) m (act enter next site p hook (act_at acts kid.node) m)) front back other each in
    let known = scene.parted field e in
    let meets : MayMeet coming field (view_at site is_est hook m) = record {
      comes = scene.comes;
      below = λ s. subst (λ n. value_of field q ≤ n) known.0 (scene.topped f (value_of field q) ((sight.agree seen f field e).protocols q.proto ∙ s) ((sight.agree seen f field e).value q));
    } in
    elim (walk_kids sight.agree enter site p is_est hook m seen f field coming acts tree e meets (front ++ back) tests last sorted parts.0) [
      | inl a ↦ (a.0, sight.reached seen q f a.0 tree front back other (inl a.1), a.2)
      | inr b ↦ (let open' : IsOpen seen q f other.set = sight.left seen tops f field q front back other e known.0 scene.topped known.1 b.0 in
          let a = parts.1 open' (rules_walk enter site p is_est hook []) in
          (a.0, sight.reached seen q f a.0 tree front back other (inr (open', a.1)), b.1 ∙ a.2))
    ]

-- the chain of a cut decides as the cut does
pub cut_decides : Sight → (tops : List ℕ) (seen : Seen) (least before f : ℕ) (chains : List IptChain) (chain : IptChain) (coming : Coming) (comings : ℕ → Coming) (acts : List IptGo) (tree : ℕ → Plain Verdict) (kids : List Kid)
    → least ≤ length chains → before ≤ length chains
    → ((field : PacketField) → seen_field seen f ≡ Some field → (slice_index tops f ≡ top_of field) × PartValues (top_of field) kids)
    → All (λ kid. IsCovered (narrowed f kid.set coming) (comings kid.node)) kids
    → All (λ kid. Decides tops seen least before chains (comings kid.node) (tree kid.node) (act_at acts kid.node)) kids
    → AreCutRules seen f coming acts kids chain.rules
    → Decides tops seen least before (chains ++ chain ∷ []) coming (cut f (kids_of tree kids)) (goes.Goto (length chains))
cut_decides sight tops seen least before f chains chain coming comings acts tree kids late begun parted covered decided made = record {
  at = λ further site p is_est hook n path next m size out comes topped.
      let q = m.packet in
      let longer = length-append chains (chain ∷ []) in
      let out' : LeavesOut least (length chains) (length chains ∷ path) =
      All-cons (λ c. (c < least) ⊎ (length chains ≤ c)) (length chains) path (inr (omega arith))
      (All-weaker (λ c. (c < least) ⊎ (length (chains ++ chain ∷ []) ≤ c)) (λ c. (c < least) ⊎ (length chains ≤ c))
      (λ c h. elim h [ inl a ↦ inl a | inr b ↦ inr (omega arith) ]) path out) in
      walked further site p is_est hook n path m (omega arith) (λ k lt. omega arith) out'
      (not_met least (length (chains ++ chain ∷ [])) path (length chains) out late (omega arith)) comes topped;
}
  where
    walked : (further : List IptChain) (site : Site) (p : Packet) (is_est : Bool) (hook : Hook) (n : ℕ) (path : List ℕ) (m : Passage)
        → 0 < n → ((k : ℕ) → n ≡ suc k → length chains < before + k) → LeavesOut least (length chains) (length chains ∷ path) → list_any (nat_eq (length chains)) path ≡ false
        → may_come coming m.packet.proto ≡ true → IsTopped tops seen m.packet
        → Answers (ReachesKid seen m.packet f (kids_of tree kids)) m (chain_walk ((chains ++ chain ∷ []) ++ further) site p is_est hook n path (length chains) m)
    walked further site p is_est hook zero path m lt size out unmet comes topped = absurd (omega arith)
    walked further site p is_est hook (suc n) path m lt size out unmet comes topped =
        let q = m.packet in
        let c : ℕ = length chains in
        let all : List IptChain = (chains ++ chain ∷ []) ++ further in
        let enter : ℕ → Passage → ChainEnd = chain_walk all site p is_est hook n (c ∷ path) in
        let same : all ≡ chains ++ (chain ∷ further) = append_assoc chains (chain ∷ []) further in
        let P : Kid → Type 0 = λ kid. IsOpen seen q f kid.set → (next : Passage → ChainEnd) → Answers (Reaches seen q (tree kid.node)) m (act enter next site p hook (act_at acts kid.node) m) in
        let each : All P kids = λ k d below o next.
        let kid = slice_index_or kids k d in
        let may : may_come (comings kid.node) q.proto ≡ true = may_cover (narrowed f kid.set coming) (comings kid.node) q.proto (covered k d below)
        (may_narrow f kid.set coming q.proto (open_proto sight.agree seen f q kid.set o) comes) in
        let r = (decided k d below).at (chain ∷ further) site p is_est hook n (c ∷ path) next m (size n refl) out may topped in
        (r.0, r.1, ap (λ l. act (chain_walk l site p is_est hook n (c ∷ path)) next site p hook (act_at acts kid.node) m) same ∙ r.2) in
        let whole : List Kid = made.front ++ made.other ∷ made.back in
        let scene : Scene tops seen f coming whole q = record {
          comes = comes;
          topped = topped;
          parted = λ field e. let k = parted field e in (k.0, subst (λ l. PartValues (top_of field) l) made.split k.1);
        } in
        let r = rules_answer sight tops seen f coming acts tree enter site p is_est hook m made.front made.back made.other made.tests scene
        (subst (λ l. AllByRecursion P l) made.split (recursion_from_All P kids each)) (seen_field seen f) refl made.sorted in (
          r.0,
          subst (λ l. ReachesKid seen q f (kids_of tree l) r.0) (sym made.split) r.1,
          cond-false (list_any (nat_eq c) path) ends.Dropped (rules_walk enter site p is_est hook (rules_at all c) m) unmet
              ∙ ap (λ l. rules_walk enter site p is_est hook l m) (rules_last chains chain further ∙ made.all) ∙ r.2,
        )
