-- The rules of turns and of nodes.
use Rattle.std.proofs.Common.{◌≡◌, ℕ, ◌+◌, ◌<◌, Bool, true, false, ◌&&◌, ◌||◌, Option, Some, None, List, [], ◌∷◌, ◌++◌, length, get_or, take, inl, inr, refl, sym, ◌∙◌, ap, subst, arith}
use Rattle.std.proofs.lemmas.Bool.{and_parts, or_parts, false≢true}
use Rattle.std.proofs.lemmas.List.{take_more}
use Rattle.std.proofs.lemmas.List.Folds.{list_any-append}
use Rattle.std.proofs.lemmas.Option.{slice_get_within}
use Rattle.std.specs.List.{list_any}
use Rattle.std.specs.Prelude.{slice_get}
use Rattle.fws_net.specs.declared.condition.Lit.{Lit}
use Rattle.fws_net.specs.declared.site.Site.{Site}
use Rattle.fws_net.specs.declared.view.View.{View}
use Rattle.fws_net.specs.Conditions.{holds}
use Rattle.fws_net.specs.Points.{tops_of}
use Rattle.fws_ipfw.specs.declared.config.IpfwRule.{IpfwRule}
use Rattle.fws_tree.specs.declared.node.Kid.{Kid}
use Rattle.fws_tree.specs.declared.node.Node.{Node}
use Rattle.fws_tree.specs.declared.node.Node.TheVariants.{Leaf}
use Rattle.fws_tree.specs.Plain.{Plain, leaf}
use Rattle.fws_tree.specs.Shared.{subtree_of}
use Rattle.fws_tree.specs.Subtrees.{IsSubtree}
use Rattle.fws_tree_seen.specs.declared.seen.Seen.{Seen}
use Rattle.fws_tree_seen.specs.Cuts.{IsCutNode}
use Rattle.fws_tree_seen.specs.Reached.{Reaches}
use Rattle.fws_ipfw_put_rules.specs.declared.choice.Choice.{Choice}
use Rattle.fws_ipfw_put_rules.specs.declared.choice.Section.{Section}
use Rattle.fws_ipfw_put_rules.specs.declared.turn.Turn.{Turn}
use Rattle.fws_ipfw_put_rules.specs.Blocks.{is_quiet, AreNodeRules, AreTurnRules, IsPlanned}
use Rattle.fws_ipfw_put_rules.specs.Lists.{fits_at, rule_of}
use Rattle.fws_ipfw_put_rules.specs.Literals.{holds_or_none, with_lit}
use Rattle.fws_ipfw_put_rules.specs.Turns.{AreCutTurns, Leads}
use Rattle.fws_ipfw_put_rules.specs.Blocks.{IsGoodCond}
use Rattle.fws_ipfw_put_rules.proofs.Leading.{cut_led, whole, Laws}
use Rattle.fws_ipfw_put_rules.proofs.Leaving.{leaf_meets}
use Rattle.fws_ipfw_put_rules.proofs.Placing.{inserted_holds}
use Rattle.fws_ipfw_put_rules.proofs.Walking.{both_blocks, no_block, no_rules, rule_block, rule_decides, rules_both, rules_same}

-- ---- turns

with_holds : (v : View) (lit : Option Lit) (conds : List Lit) → holds (with_lit lit conds) v ≡ (holds conds v && holds_or_none v lit)
with_holds v None conds = and_true (holds conds v)
  where
    and_true : (b : Bool) → b ≡ (b && true)
    and_true true = refl
    and_true false = refl
with_holds v (Some lit) conds = inserted_holds v lit conds

-- more turns behind change nothing for those before
lead_more : (seen : Seen) (tree : ℕ → Plain Choice) (v : View) (w : Choice) (xs ys : List Turn) → Leads seen tree v xs w → Leads seen tree v (xs ++ ys) w
lead_more seen tree v w [] ys h = absurd h
lead_more seen tree v w (x ∷ xs) ys (inl a) = inl a
lead_more seen tree v w (x ∷ xs) ys (inr b) = inr (b.0, lead_more seen tree v w xs ys b.1)

-- a turn that holds behind others that don't
lead_last : (seen : Seen) (tree : ℕ → Plain Choice) (v : View) (w : Choice) (xs : List Turn) (turn : Turn) → list_any (λ turn. holds_or_none v turn.lit) xs ≡ false
    → holds_or_none v turn.lit ≡ true → Reaches seen v.packet (tree turn.node) w → Leads seen tree v (xs ++ turn ∷ []) w
lead_last seen tree v w [] turn e is h = inl (is, h)
lead_last seen tree v w (x ∷ xs) turn e is h =
    let parts = or_parts (holds_or_none v x.lit) (list_any (λ turn. holds_or_none v turn.lit) xs) e in inr (parts.0, lead_last seen tree v w xs turn parts.1 is h)

none_held : (a x : Bool) → (a && x) ≡ false → a ≡ true → x ≡ false
none_held true x e f = e
none_held false x e f = absurd (false≢true f)

one_more : (a x y : Bool) → (a && (x || (y || false))) ≡ ((a && x) || (a && y))
one_more true true y = refl
one_more true false true = refl
one_more true false false = refl
one_more false x y = refl

pub no_turns : (site : Site) (tops : List ℕ) (section : Section) (t : Plain Choice) (leaves : List Choice) (nodes : List Node) (conds : List Lit) → AreTurnRules site tops section t leaves nodes conds [] []
no_turns site tops section t leaves nodes conds = record {
  is_block = no_block site section.number t;
  decide = no_rules tops section (λ v w. Leads section.seen (subtree_of leaves nodes) v [] w) (λ v. holds conds v && list_any (λ (turn : Turn). holds_or_none v turn.lit) []) (λ v. never (holds conds v));
}
  where
    never : (b : Bool) → (b && false) ≡ false
    never true = refl
    never false = refl

-- the rules of one turn more
turn_behind : (site : Site) (tops : List ℕ) (section : Section) (t : Plain Choice) (leaves : List Choice) (nodes : List Node) (conds next : List Lit) (xs : List Turn) (turn : Turn) (a b : List IpfwRule)
    → next ≡ with_lit turn.lit conds → AreTurnRules site tops section t leaves nodes conds xs a → AreNodeRules site tops section t leaves nodes turn.node next b
    → AreTurnRules site tops section t leaves nodes conds (xs ++ turn ∷ []) (a ++ b)
turn_behind site tops section t leaves nodes conds next xs turn a b is h g =
    let tree : ℕ → Plain Choice = λ n. subtree_of leaves nodes n in
    let any : View → List Turn → Bool = λ v l. list_any (λ turn. holds_or_none v turn.lit) l in
    let second : (v : View) → holds next v ≡ (holds conds v && holds_or_none v turn.lit) = λ v. ap (λ l. holds l v) is ∙ with_holds v turn.lit conds in
    record {
      is_block = both_blocks site section.number t a b h.is_block g.is_block;
      decide = rules_both tops section (λ v w. Leads section.seen tree v xs w) (λ v w. Reaches section.seen v.packet (tree turn.node) w) (λ v w. Leads section.seen tree v (xs ++ turn ∷ []) w)
          (λ v. holds conds v && any v xs) (λ v. holds next v) (λ v. holds conds v && any v (xs ++ turn ∷ [])) a b
          (λ v. ap (λ x. holds conds v && x) (list_any-append (λ turn. holds_or_none v turn.lit) xs (turn ∷ [])) ∙ one_more (holds conds v) (any v xs) (holds_or_none v turn.lit)
          ∙ ap (λ x. (holds conds v && any v xs) || x) (sym (second v)))
          (λ v w fine held l. lead_more section.seen tree v w xs (turn ∷ []) l)
          (λ v w fine fails held r. let both = and_parts (holds conds v) (holds_or_none v turn.lit) (sym (second v) ∙ held) in
          lead_last section.seen tree v w xs turn (none_held (holds conds v) (any v xs) fails both.0) both.1 r)
          g.is_block.numbered h.decide g.decide;
    }

pub turn_more : (site : Site) (tops : List ℕ) (section : Section) (t : Plain Choice) (leaves : List Choice) (nodes : List Node) (conds next : List Lit) (turns : List Turn) (i : ℕ) (turn : Turn) (a b : List IpfwRule)
    → i < length turns → turn ≡ get_or turns i turn → next ≡ with_lit turn.lit conds → AreTurnRules site tops section t leaves nodes conds (take i turns) a
    → AreNodeRules site tops section t leaves nodes turn.node next b → AreTurnRules site tops section t leaves nodes conds (take (i + 1) turns) (a ++ b)
turn_more site tops section t leaves nodes conds next turns i turn a b lt at is h g =
    let more : take i turns ++ turn ∷ [] ≡ take (i + 1) turns = ap (λ y. take i turns ++ y ∷ []) at ∙ sym (take_more turns i turn lt) in
    subst (λ l. AreTurnRules site tops section t leaves nodes conds l (a ++ b)) more (turn_behind site tops section t leaves nodes conds next (take i turns) turn a b is h g)

-- ---- nodes

pub cut_rules : (laws : Laws) (site : Site) (tops : List ℕ) (section : Section) (t : Plain Choice) (leaves : List Choice) (nodes : List Node) (at f : ℕ) (kids : List Kid) (conds : List Lit) (turns : List Turn) (block : List IpfwRule)
    → tops ≡ tops_of site → IsCutNode tops leaves nodes at f kids → AreCutTurns section.seen f kids turns
    → AreTurnRules site tops section t leaves nodes conds turns block → AreNodeRules site tops section t leaves nodes at conds block
cut_rules laws site tops section t leaves nodes at f kids conds turns block is node made h = record {
  is_block = h.is_block;
  decide = rules_same tops section (λ v w. Leads section.seen (subtree_of leaves nodes) v turns w) (λ v w. Reaches section.seen v.packet (subtree_of leaves nodes at) w)
      (λ v. holds conds v && list_any (λ turn. holds_or_none v turn.lit) turns) (λ v. holds conds v) block
      (λ v. and_true (holds conds v) (list_any (λ turn. holds_or_none v turn.lit) turns) (whole _ kids turns made v))
      (λ v w fine held l. cut_led laws site tops section.seen leaves nodes at f kids turns is node made v w fine.topped l) h.decide;
}
  where
    and_true : (a b : Bool) → b ≡ true → a ≡ (a && b)
    and_true true b e = sym e
    and_true false b e = refl

pub leaf_rules : (site : Site) (tops : List ℕ) (section : Section) (t : Plain Choice) (leaves : List Choice) (nodes : List Node) (at n : ℕ) (a : Choice) (conds : List Lit)
    → IsPlanned site tops t section leaves nodes → slice_get nodes at ≡ Some (Leaf n) → subtree_of leaves nodes at ≡ leaf a → IsGoodCond site section.seen nodes at conds
    → AreNodeRules site tops section t leaves nodes at conds (rule_of section.number conds a ∷ [])
leaf_rules site tops section t leaves nodes at n a conds planned there is good =
    let below : IsSubtree (leaf a) t = subst (λ u. IsSubtree u t) is (planned.shared.within at (slice_get_within nodes at (Leaf n) there)) in
    let fits = leaf_meets (fits_at section.number) a t below planned.fits in
    record {
      is_block = rule_block site section.number t conds a planned.number good.printed fits (λ k h. leaf_meets (is_quiet k) a t below h);
      decide = rule_decides tops section (λ v w. Reaches section.seen v.packet (subtree_of leaves nodes at) w) conds a fits (λ v. subst (λ u. Reaches section.seen v.packet u a) (sym is) refl);
    }

-- ---- what a plan gives for the turns of a cut

pub some_kids : {tops : List ℕ} {leaves : List Choice} {nodes : List Node} {at f : ℕ} (kids : List Kid) → IsCutNode tops leaves nodes at f kids → 0 < length kids
some_kids kids node = let many = node.many in omega (arith, many)

pub with_rule : (old new : List IpfwRule) (rule : IpfwRule) (number : ℕ) (own conds : List Lit) (choice a : Choice) → new ≡ old ++ rule ∷ [] → rule ≡ rule_of number own choice → own ≡ conds → choice ≡ a
    → new ≡ old ++ rule_of number conds a ∷ []
with_rule old new rule number own conds choice a is rule-is same choice-is =
    is ∙ ap (λ r. old ++ r ∷ []) (rule-is ∙ ap (λ l. rule_of number l choice) same ∙ ap (λ w. rule_of number conds w) choice-is)
