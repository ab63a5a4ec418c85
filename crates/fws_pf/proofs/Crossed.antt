-- The conditions of a statement fit, where its choices do.
use Rattle.std.proofs.Common.{◌≡◌, ℕ, suc, ◌≤◌, ◌<◌, Bool, true, false, ◌&&◌, ◌||◌, not, cond, nat_eq, nat_le, nat_lt, Option, Some, None, option_map, List, [], ◌∷◌, ◌++◌, length, map, arith, refl, ◌∙◌, ⊎_elim}
use Rattle.std.specs.List.{list_all, list_any}
use Rattle.std.specs.Option.{option_map_or}
use Rattle.std.proofs.lemmas.Bool.{false≢true, true≢false, and_parts, and_from, or_left, or_right, or_cases, or_parts, cond_both, le-leb, lt-ltb, ltb-true}
use Rattle.std.proofs.lemmas.List.Folds.{list_all-map}
use Rattle.fws_iv.specs.declared.iv.Iv.{Iv}
use Rattle.fws_net.specs.declared.condition.Lit.{Lit}
use Rattle.fws_net.specs.declared.condition.Test.{Test}
use Rattle.fws_net.specs.declared.condition.Test.TheVariants as tests
use Rattle.fws_net.specs.Ends.{host_end}
use Rattle.fws_rules.specs.Literals.{literals, positive}
use Rattle.fws_rules.specs.Networks.{net_end}
use Rattle.fws_pf.specs.declared.rule_draft.Choice.{Choice}
use Rattle.fws_pf.specs.declared.rule_draft.RuleDraft.{RuleDraft}
use Rattle.fws_pf.specs.declared.rule_draft.Target.{Target}
use Rattle.fws_pf.specs.declared.tables.Table.{Table}
use Rattle.fws_pf.specs.declared.value_draft.Item.{Item}
use Rattle.fws_pf.specs.declared.value_draft.Part.{Part}
use Rattle.fws_pf.specs.declared.value_draft.Part.TheVariants as parts
use Rattle.fws_pf.specs.Drawn.{value_choices, implied_flags, implies_flags, choices, crossed, conditions, protocol_passes, has_protocols, is_port_protocol, has_target_port, has_ports, lacks_protocol, target_end}
use Rattle.fws_pf.specs.RuleText.{item_literals, choice_of, only}
use Rattle.fws_pf.specs.Soundness.{names_protocol, test_fits, cond_fits, end_fits}
use Rattle.fws_pf.specs.Tables.{part_set}
use Rattle.fws_pf.proofs.Lists.{all_each, all_weaker, all_together, all_both, any_longer, any_behind}

-- Which tests a statement may have

-- tests of ports and of types of ICMP messages, and of one of so many tags
abbrev pub may : Bool → Bool → ℕ → Test → Bool
may ports icmp tags (tests.Sport set) = ports
may ports icmp tags (tests.Dport set) = ports
may ports icmp tags (tests.Icmp set) = icmp
may ports icmp tags (tests.Tag n) = nat_lt n tags
may ports icmp tags _ = true

abbrev pub lits_may : Bool → Bool → ℕ → List Lit → Bool
lits_may ports icmp tags lits = list_all (λ lit. may ports icmp tags lit.test) lits

abbrev pub choice_may : Bool → Bool → ℕ → Choice → Bool
choice_may ports icmp tags choice = list_all (lits_may ports icmp tags) choice.conds

pub below_more : (n a b : ℕ) → a ≤ b → nat_lt n a ≡ true → nat_lt n b ≡ true
below_more n a b more h =
    let below : n < a = ltb-true n a h in
    lt-ltb n b (omega arith)

may_more : (ports icmp some any : Bool) (a b : ℕ) → (ports ≡ true → some ≡ true) → (icmp ≡ true → any ≡ true) → a ≤ b → (t : Test) → may ports icmp a t ≡ true
    → may some any b t ≡ true
may_more ports icmp some any a b p i more (tests.Sport set) h = p h
may_more ports icmp some any a b p i more (tests.Dport set) h = p h
may_more ports icmp some any a b p i more (tests.Icmp set) h = i h
may_more ports icmp some any a b p i more (tests.Tag n) h = below_more n a b more h
may_more ports icmp some any a b p i more _ h = refl

-- more may be there
pub choice_more : (ports icmp some any : Bool) (a b : ℕ) → (ports ≡ true → some ≡ true) → (icmp ≡ true → any ≡ true) → a ≤ b → (choice : Choice)
    → choice_may ports icmp a choice ≡ true → choice_may some any b choice ≡ true
choice_more ports icmp some any a b p i more choice h =
    all_weaker (lits_may ports icmp a) (lits_may some any b)
    (λ lits k. all_weaker (λ lit. may ports icmp a lit.test) (λ lit. may some any b lit.test) (λ lit on. may_more ports icmp some any a b p i more lit.test on) lits k)
    choice.conds h

pub choices_more : (ports icmp some any : Bool) (a b : ℕ) → (ports ≡ true → some ≡ true) → (icmp ≡ true → any ≡ true) → a ≤ b → (cs : List Choice)
    → list_all (choice_may ports icmp a) cs ≡ true → list_all (choice_may some any b) cs ≡ true
choices_more ports icmp some any a b p i more cs h =
    all_weaker (choice_may ports icmp a) (choice_may some any b) (choice_more ports icmp some any a b p i more) cs h

-- Literals of values

module _ (ports icmp : Bool) (tags : ℕ) where
  literals_may : (negated : Bool) (test : List Iv → Test) (o : Option (List Iv)) → ((set : List Iv) → may ports icmp tags (test set) ≡ true)
      → lits_may ports icmp tags (literals negated (option_map (λ set. positive (test set)) o)) ≡ true
  literals_may false test None h = refl
  literals_may true test None h = refl
  literals_may false test (Some set) h = and_from (may ports icmp tags (test set)) true (h set) refl
  literals_may true test (Some set) h = and_from (may ports icmp tags (test set)) true (h set) refl

  pub items_may : (tables : List Table) (test : List Iv → Test) → ((set : List Iv) → may ports icmp tags (test set) ≡ true) → (items : List Item)
      → choice_may ports icmp tags (choice_of tables test items) ≡ true
  items_may tables test h items =
      list_all-map (lits_may ports icmp tags) (item_literals tables test) items
      ∙ all_each (λ item. lits_may ports icmp tags (item_literals tables test item)) (λ item. literals_may item.negated test (part_set tables item.part) h) items

  values_may : (tables : List Table) (test : List Iv → Test) (items : List Item) → (nat_le 1 (length items) ≡ true → (set : List Iv) → may ports icmp tags (test set) ≡ true)
      → list_all (choice_may ports icmp tags) (value_choices tables test items) ≡ true
  values_may tables test [] h = refl
  values_may tables test (item ∷ items) h =
      and_from (choice_may ports icmp tags (choice_of tables test (item ∷ items))) true
      (items_may tables test (h (le-leb 1 (suc (length items)) (omega arith))) (item ∷ items)) refl

eight_all : (p : Choice → Bool) (a b c d e f g h : List Choice) → list_all p a ≡ true → list_all p b ≡ true → list_all p c ≡ true → list_all p d ≡ true
    → list_all p e ≡ true → list_all p f ≡ true → list_all p g ≡ true → list_all p h ≡ true → list_all p (a ++ b ++ c ++ d ++ e ++ f ++ g ++ h) ≡ true
eight_all p a b c d e f g h s t u v w x y z =
    all_both p (a ++ b ++ c ++ d ++ e ++ f ++ g) h
    (all_both p (a ++ b ++ c ++ d ++ e ++ f) g
    (all_both p (a ++ b ++ c ++ d ++ e) f
    (all_both p (a ++ b ++ c ++ d) e (all_both p (a ++ b ++ c) d (all_both p (a ++ b) c (all_both p a b s t) u) v) w) x) y) z

second_any : (p : Choice → Bool) (a b c d e f g h : List Choice) → list_any p b ≡ true → list_any p (a ++ b ++ c ++ d ++ e ++ f ++ g ++ h) ≡ true
second_any p a b c d e f g h k =
    any_longer p (a ++ b ++ c ++ d ++ e ++ f ++ g) h
    (any_longer p (a ++ b ++ c ++ d ++ e ++ f) g
    (any_longer p (a ++ b ++ c ++ d ++ e) f
    (any_longer p (a ++ b ++ c ++ d) e (any_longer p (a ++ b ++ c) d (any_longer p (a ++ b) c (any_behind p a b k))))))

implied_may : (ports icmp implied : Bool) (tags : ℕ) → list_all (choice_may ports icmp tags) (cond implied (only implied_flags ∷ []) []) ≡ true
implied_may ports icmp true tags = refl
implied_may ports icmp false tags = refl

all_may : (tables : List Table) (d : RuleDraft) → list_all (choice_may false d.has_icmp_type (length d.tags)) d.options ≡ true
    → list_all (choice_may (has_ports d) d.has_icmp_type (length d.tags)) (choices tables d) ≡ true
all_may tables d h =
    let ports = has_ports d in
    let icmp = d.has_icmp_type in
    let tags = length d.tags in
    let first = nat_le 1 (length d.source_ports) in
    let other = nat_le 1 (length d.destination_ports) in
    eight_all (choice_may ports icmp tags) (value_choices tables tests.Via d.faces) (value_choices tables tests.Proto d.protocols)
    (value_choices tables tests.Src d.sources) (value_choices tables tests.Sport d.source_ports) (value_choices tables tests.Dst d.destinations)
    (value_choices tables tests.Dport d.destination_ports) d.options (cond (implies_flags d) (only implied_flags ∷ []) [])
    (values_may ports icmp tags tables tests.Via d.faces (λ some set. refl))
    (values_may ports icmp tags tables tests.Proto d.protocols (λ some set. refl))
    (values_may ports icmp tags tables tests.Src d.sources (λ some set. refl))
    (values_may ports icmp tags tables tests.Sport d.source_ports (λ some set. or_left (first || other) (has_target_port d) (or_left first other some)))
    (values_may ports icmp tags tables tests.Dst d.destinations (λ some set. refl))
    (values_may ports icmp tags tables tests.Dport d.destination_ports (λ some set. or_left (first || other) (has_target_port d) (or_right first other some)))
    (choices_more false icmp ports icmp tags tags (λ never. absurd (false≢true never)) (λ on. on) (omega arith) d.options h)
    (implied_may ports icmp (implies_flags d) tags)

-- Crossing

crossed_all : (p : Lit → Bool) (fronts rests : List (List Lit)) → list_all (list_all p) fronts ≡ true → list_all (list_all p) rests ≡ true
    → list_all (list_all p) (crossed fronts rests) ≡ true
crossed_all p [] rests h k = refl
crossed_all p (front ∷ fronts) rests h k =
    let both = and_parts (list_all p front) (list_all (list_all p) fronts) h in
    all_both (list_all p) (map (λ rest. front ++ rest) rests) (crossed fronts rests)
    (list_all-map (list_all p) (λ rest. front ++ rest) rests
    ∙ all_weaker (list_all p) (λ rest. list_all p (front ++ rest)) (λ rest on. all_both p front rest both.0 on) rests k)
    (crossed_all p fronts rests both.1 k)

conditions_all : (p : Lit → Bool) (cs : List Choice) → list_all (λ choice. list_all (list_all p) choice.conds) cs ≡ true → list_all (list_all p) (conditions cs) ≡ true
conditions_all p [] h = refl
conditions_all p (choice ∷ cs) h =
    let both = and_parts (list_all (list_all p) choice.conds) (list_all (λ other. list_all (list_all p) other.conds) cs) h in
    crossed_all p choice.conds (conditions cs) both.0 (conditions_all p cs both.1)

crossed_front : (q : Lit → Bool) (fronts rests : List (List Lit)) → list_all (list_any q) fronts ≡ true → list_all (list_any q) (crossed fronts rests) ≡ true
crossed_front q [] rests h = refl
crossed_front q (front ∷ fronts) rests h =
    let both = and_parts (list_any q front) (list_all (list_any q) fronts) h in
    all_both (list_any q) (map (λ rest. front ++ rest) rests) (crossed fronts rests)
    (list_all-map (list_any q) (λ rest. front ++ rest) rests ∙ all_each (λ rest. list_any q (front ++ rest)) (λ rest. any_longer q front rest both.0) rests)
    (crossed_front q fronts rests both.1)

crossed_rest : (q : Lit → Bool) (fronts rests : List (List Lit)) → list_all (list_any q) rests ≡ true → list_all (list_any q) (crossed fronts rests) ≡ true
crossed_rest q [] rests h = refl
crossed_rest q (front ∷ fronts) rests h =
    all_both (list_any q) (map (λ rest. front ++ rest) rests) (crossed fronts rests)
    (list_all-map (list_any q) (λ rest. front ++ rest) rests
    ∙ all_weaker (list_any q) (λ rest. list_any q (front ++ rest)) (λ rest on. any_behind q front rest on) rests h)
    (crossed_rest q fronts rests h)

-- what each condition of some choice has, each condition has
conditions_any : (q : Lit → Bool) (cs : List Choice) → list_any (λ choice. list_all (list_any q) choice.conds) cs ≡ true → list_all (list_any q) (conditions cs) ≡ true
conditions_any q [] h = absurd (false≢true h)
conditions_any q (choice ∷ cs) h =
    ⊎_elim (λ here. crossed_front q choice.conds (conditions cs) here) (λ more. crossed_rest q choice.conds (conditions cs) (conditions_any q cs more))
    (or_cases (list_all (list_any q) choice.conds) (list_any (λ other. list_all (list_any q) other.conds) cs) h)

-- Protocols

-- a value of one protocol
abbrev pub one_part : Part → Bool
one_part (parts.Set (x ∷ [])) = nat_eq x.lo x.hi
one_part _ = false

abbrev pub one_protocol : Item → Bool
one_protocol item = not item.negated && one_part item.part

named_by : (test : ℕ → Bool) (tables : List Table) (negated : Bool) (part : Part) → (not negated && one_part part) ≡ true → protocol_passes test part ≡ true
    → names_protocol test (literals negated (option_map (λ set. positive (tests.Proto set)) (part_set tables part))) ≡ true
named_by test tables true part h k = absurd (false≢true h)
named_by test tables false (parts.Set (x ∷ [])) h k = or_left (nat_eq x.lo x.hi && test x.lo) false (and_from (nat_eq x.lo x.hi) (test x.lo) h k)
named_by test tables false _ h k = absurd (false≢true h)

protocols_named : (test : ℕ → Bool) (tables : List Table) (items : List Item) → list_all one_protocol items ≡ true → has_protocols test items ≡ true
    → list_any (λ choice. list_all (names_protocol test) choice.conds) (value_choices tables tests.Proto items) ≡ true
protocols_named test tables [] h k = absurd (false≢true k)
protocols_named test tables (item ∷ items) h k =
    let literals_of = item_literals tables tests.Proto in
    let passing = (and_parts (nat_le 1 (length (item ∷ items))) (list_all (λ each. protocol_passes test each.part) (item ∷ items)) k).1 in
    or_left (list_all (names_protocol test) (map literals_of (item ∷ items))) false
    (list_all-map (names_protocol test) literals_of (item ∷ items)
    ∙ all_together one_protocol (λ each. protocol_passes test each.part) (λ each. names_protocol test (literals_of each))
    (λ each one on. named_by test tables each.negated each.part one on) (item ∷ items) h passing)

-- each condition names such a protocol
all_named : (test : ℕ → Bool) (tables : List Table) (d : RuleDraft) → list_all one_protocol d.protocols ≡ true → has_protocols test d.protocols ≡ true
    → list_all (names_protocol test) (conditions (choices tables d)) ≡ true
all_named test tables d h k =
    conditions_any _ (choices tables d)
    (second_any (λ choice. list_all (names_protocol test) choice.conds) (value_choices tables tests.Via d.faces) (value_choices tables tests.Proto d.protocols)
    (value_choices tables tests.Src d.sources) (value_choices tables tests.Sport d.source_ports) (value_choices tables tests.Dst d.destinations)
    (value_choices tables tests.Dport d.destination_ports) d.options (cond (implies_flags d) (only implied_flags ∷ []) [])
    (protocols_named test tables d.protocols h k))

-- Conditions

-- a condition fits, and names a protocol with ports where the statement has ports
abbrev pub cond_stands : ℕ → Bool → List Lit → Bool
cond_stands tags ports lits = cond_fits tags lits && (not ports || names_protocol is_port_protocol lits)

test_by : (ports icmp : Bool) (tags : ℕ) (lits : List Lit) → (ports ≡ true → names_protocol is_port_protocol lits ≡ true)
    → (icmp ≡ true → names_protocol (nat_eq 1) lits ≡ true) → (t : Test) → may ports icmp tags t ≡ true → test_fits tags lits t ≡ true
test_by ports icmp tags lits p i (tests.Sport set) h = p h
test_by ports icmp tags lits p i (tests.Dport set) h = p h
test_by ports icmp tags lits p i (tests.Icmp set) h = i h
test_by ports icmp tags lits p i (tests.Tag n) h = h
test_by ports icmp tags lits p i _ h = refl

implied_by : (a b : Bool) → (a ≡ true → b ≡ true) → (not a || b) ≡ true
implied_by true b h = h refl
implied_by false b h = refl

all_stand : (ports icmp : Bool) (tags : ℕ) (conds : List (List Lit)) → list_all (lits_may ports icmp tags) conds ≡ true
    → (ports ≡ true → list_all (names_protocol is_port_protocol) conds ≡ true) → (icmp ≡ true → list_all (names_protocol (nat_eq 1)) conds ≡ true)
    → list_all (cond_stands tags ports) conds ≡ true
all_stand ports icmp tags [] h p i = refl
all_stand ports icmp tags (lits ∷ conds) h p i =
    let both = and_parts (lits_may ports icmp tags lits) (list_all (lits_may ports icmp tags) conds) h in
    let ported : ports ≡ true → (names_protocol is_port_protocol lits ≡ true) × (list_all (names_protocol is_port_protocol) conds ≡ true)
    = λ on. and_parts (names_protocol is_port_protocol lits) (list_all (names_protocol is_port_protocol) conds) (p on) in
    let typed : icmp ≡ true → (names_protocol (nat_eq 1) lits ≡ true) × (list_all (names_protocol (nat_eq 1)) conds ≡ true)
    = λ on. and_parts (names_protocol (nat_eq 1) lits) (list_all (names_protocol (nat_eq 1)) conds) (i on) in
    and_from (cond_stands tags ports lits) (list_all (cond_stands tags ports) conds)
    (and_from (cond_fits tags lits) (not ports || names_protocol is_port_protocol lits)
    (all_weaker (λ lit. may ports icmp tags lit.test) (λ lit. test_fits tags lits lit.test)
    (λ lit on. test_by ports icmp tags lits (λ k. (ported k).0) (λ k. (typed k).0) lit.test on) lits both.0)
    (implied_by ports (names_protocol is_port_protocol lits) (λ k. (ported k).0)))
    (all_stand ports icmp tags conds both.1 (λ k. (ported k).1) (λ k. (typed k).1))

needed : (a b : Bool) → (a && not b) ≡ false → a ≡ true → b ≡ true
needed true true h on = refl
needed true false h on = absurd (true≢false h)
needed false b h on = absurd (false≢true on)

-- the conditions of a statement of the right shape
pub conditions_stand : (tables : List Table) (d : RuleDraft) → list_all one_protocol d.protocols ≡ true
    → list_all (choice_may false d.has_icmp_type (length d.tags)) d.options ≡ true → lacks_protocol d ≡ false
    → list_all (cond_stands (length d.tags) (has_ports d)) (conditions (choices tables d)) ≡ true
conditions_stand tables d one may_be shape =
    let ported = has_protocols is_port_protocol d.protocols in
    let typed = has_protocols (nat_eq 1) d.protocols in
    let last = or_parts ((has_ports d && not ported) || (d.tests_flags && not (has_protocols (nat_eq 6) d.protocols))) (d.has_icmp_type && not typed) shape in
    let first = or_parts (has_ports d && not ported) (d.tests_flags && not (has_protocols (nat_eq 6) d.protocols)) last.0 in
    all_stand (has_ports d) d.has_icmp_type (length d.tags) (conditions (choices tables d))
    (conditions_all (λ lit. may (has_ports d) d.has_icmp_type (length d.tags) lit.test) (choices tables d) (all_may tables d may_be))
    (λ on. all_named is_port_protocol tables d one (needed (has_ports d) ported first.0 on))
    (λ on. all_named (nat_eq 1) tables d one (needed d.has_icmp_type typed last.1 on))

-- Targets

port_by : (ports named : Bool) (port : Option ℕ) → (not ports || named) ≡ true → (option_map_or (λ n. true) port false ≡ true → ports ≡ true)
    → option_map_or (λ n. named) port true ≡ true
port_by ports named None h k = refl
port_by ports named (Some n) h k = ⊎_elim (λ off. absurd (denied ports off (k refl))) (λ on. on) (or_cases (not ports) named h)
  where
    denied : (b : Bool) → not b ≡ true → b ≡ true → ⊥
    denied true off on = false≢true off
    denied false off on = false≢true on

pub target_stands : (ports : Bool) (lits : List Lit) (target : Option Target) → (not ports || names_protocol is_port_protocol lits) ≡ true
    → (option_map_or (λ (t : Target). option_map_or (λ port. true) t.port false) target false ≡ true → ports ≡ true)
    → option_map_or (end_fits lits) (option_map target_end target) true ≡ true
target_stands ports lits None h k = refl
target_stands ports lits (Some t) h k =
    cond_both t.is_mapped (net_end t.net) (host_end t.net.addr t.port) (λ e. end_fits lits e ≡ true) (λ e. refl)
    (λ e. port_by ports (names_protocol is_port_protocol lits) t.port h k)
