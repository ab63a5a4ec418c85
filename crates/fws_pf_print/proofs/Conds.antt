-- A printed condition, divided by what it asks for; and conditions of single choices.
use Rattle.std.proofs.Common.{◌≡◌, ℕ, ◌*◌, ◌-◌, ◌^◌, Bool, true, false, ◌&&◌, ◌||◌, not, nat_eq, nat_le, is_some, List, [], ◌∷◌, ◌++◌, map, length, refl, ap, sym, ◌∙◌, append_assoc, append-nil, arith, subst}
use Rattle.std.proofs.lemmas.Bool.{and_from, and_parts}
use Rattle.std.specs.List.{list_all}
use Rattle.fws_iv.specs.declared.iv.Iv.{Iv}
use Rattle.fws_net.specs.declared.condition.Lit.{Lit}
use Rattle.fws_net.specs.declared.condition.Test.{Test}
use Rattle.fws_net.specs.declared.condition.Test.TheVariants.{Src, Dst, Sport, Dport, Proto, Via}
use Rattle.fws_net.specs.declared.site.Site.{Site}
use Rattle.fws_rules.specs.Literals.{positive}
use Rattle.fws_pf.specs.declared.rule_draft.Choice.{Choice}
use Rattle.fws_pf.specs.Drawn.{condition_count, conditions, has_protocols, is_port_protocol, value_choices}
use Rattle.fws_pf.specs.RuleText.{only}
use Rattle.fws_print.specs.Sets.{first_number, is_interface, is_number, is_range}
use Rattle.fws_pf_print.specs.Printable.{ascend, behind_cond, is_printed_cond, is_printed_literal, is_translation_test, place_of, protocol_tested, tested}
use Rattle.fws_pf_print.specs.PrintedText.{options_words, tests_flags}
use Rattle.fws_pf_print.proofs.Basics.{never}
use Rattle.fws_pf_print.proofs.Drafts.{items_of, side_items}
use Rattle.fws_pf_print.proofs.Shapes.{AreOptions, lits_at, options, peel, test_at}

-- what is asked for at a place is printed
abbrev pub Printed : List Iv → Bool → Type 0
Printed set b = (set ≡ [] → ⊥) → b ≡ true

-- a printed condition
pub record IsDivided (site : Site) (lits : List Lit) : Type 0 where
  pub via : Printed (tested 0 lits) (is_interface site (tested 0 lits))
  pub proto : Printed (tested 1 lits) (is_number 255 (tested 1 lits))
  pub src : Printed (tested 2 lits) (is_range (2 ^ 32 - 1) (tested 2 lits))
  pub sport : Printed (tested 3 lits) (is_port_protocol (protocol_tested lits) && is_range 65535 (tested 3 lits))
  pub dst : Printed (tested 4 lits) (is_range (2 ^ 32 - 1) (tested 4 lits))
  pub dport : Printed (tested 5 lits) (is_port_protocol (protocol_tested lits) && is_range 65535 (tested 5 lits))
  pub rest : List Lit
  pub options : AreOptions site (protocol_tested lits) rest
  pub divides : lits ≡ lits_at Via (tested 0 lits) ++ (lits_at Proto (tested 1 lits) ++ (lits_at Src (tested 2 lits) ++ (lits_at Sport (tested 3 lits) ++ (lits_at Dst (tested 4 lits) ++ (lits_at Dport (tested 5 lits) ++ rest)))))
  pub words : options_words lits ≡ options_words rest
  pub tags : (known : ℕ) → behind_cond lits known ≡ behind_cond rest known
  pub narrow : list_all (λ lit. is_translation_test lit.test) lits ≡ true → list_all (λ lit. is_translation_test lit.test) rest ≡ true

pub divided : (site : Site) (lits : List Lit) → is_printed_cond site lits ≡ true → IsDivided site lits
unfolding test_at
divided site lits h =
    let m = protocol_tested lits in
    let both = and_parts (ascend 0 lits) (list_all (is_printed_literal site m) lits) h in
    let p0 = peel site m 0 lits (omega arith) both.0 both.1 in
    let p1 = peel site m 1 p0.rest (omega arith) p0.later p0.printed in
    let p2 = peel site m 2 p1.rest (omega arith) p1.later p1.printed in
    let p3 = peel site m 3 p2.rest (omega arith) p2.later p2.printed in
    let p4 = peel site m 4 p3.rest (omega arith) p3.later p3.printed in
    let p5 = peel site m 5 p4.rest (omega arith) p4.later p4.printed in
    let e1 : tested 1 lits ≡ tested 1 p0.rest = p0.others 1 (omega arith) in
    let e2 : tested 2 lits ≡ tested 2 p1.rest = p0.others 2 (omega arith) ∙ p1.others 2 (omega arith) in
    let e3 : tested 3 lits ≡ tested 3 p2.rest = p0.others 3 (omega arith) ∙ p1.others 3 (omega arith) ∙ p2.others 3 (omega arith) in
    let e4 : tested 4 lits ≡ tested 4 p3.rest = p0.others 4 (omega arith) ∙ p1.others 4 (omega arith) ∙ p2.others 4 (omega arith) ∙ p3.others 4 (omega arith) in
    let e5 : tested 5 lits ≡ tested 5 p4.rest = p0.others 5 (omega arith) ∙ p1.others 5 (omega arith) ∙ p2.others 5 (omega arith) ∙ p3.others 5 (omega arith) ∙ p4.others 5 (omega arith) in
    record {
      via = p0.own;
      proto = λ some. ap (is_number 255) e1 ∙ p1.own (λ none. some (e1 ∙ none));
      src = λ some. ap (is_range (2 ^ 32 - 1)) e2 ∙ p2.own (λ none. some (e2 ∙ none));
      sport = λ some. ap (λ s. is_port_protocol m && is_range 65535 s) e3 ∙ p3.own (λ none. some (e3 ∙ none));
      dst = λ some. ap (is_range (2 ^ 32 - 1)) e4 ∙ p4.own (λ none. some (e4 ∙ none));
      dport = λ some. ap (λ s. is_port_protocol m && is_range 65535 s) e5 ∙ p5.own (λ none. some (e5 ∙ none));
      rest = p5.rest;
      options = options site m p5.rest p5.later p5.printed;
      divides = p0.divides ∙ ap (λ (l : List Lit). lits_at Via (tested 0 lits) ++ l)
          (at_place Proto 1 p0.rest p1.rest e1 p1.divides ∙ ap (λ (l : List Lit). lits_at Proto (tested 1 lits) ++ l)
          (at_place Src 2 p1.rest p2.rest e2 p2.divides ∙ ap (λ (l : List Lit). lits_at Src (tested 2 lits) ++ l)
          (at_place Sport 3 p2.rest p3.rest e3 p3.divides ∙ ap (λ (l : List Lit). lits_at Sport (tested 3 lits) ++ l)
          (at_place Dst 4 p3.rest p4.rest e4 p4.divides ∙ ap (λ (l : List Lit). lits_at Dst (tested 4 lits) ++ l) (at_place Dport 5 p4.rest p5.rest e5 p5.divides)))));
      words = p0.words ∙ p1.words ∙ p2.words ∙ p3.words ∙ p4.words ∙ p5.words;
      tags = λ known. p0.tags known ∙ p1.tags known ∙ p2.tags known ∙ p3.tags known ∙ p4.tags known ∙ p5.tags known;
      narrow = λ k. p5.narrow (p4.narrow (p3.narrow (p2.narrow (p1.narrow (p0.narrow k)))));
    }
  where
    at_place : (test : List Iv → Test) (k : ℕ) (now rest : List Lit) → tested k lits ≡ tested k now → now ≡ lits_at test (tested k now) ++ rest → now ≡ lits_at test (tested k lits) ++ rest
    at_place test k now rest e d = d ∙ ap (λ s. lits_at test s ++ rest) (sym e)

-- Flags are asked for by options alone

no_flags : (test : List Iv → Test) → ((s : List Iv) → nat_eq (place_of (test s)) 6 ≡ false) → (set : List Iv) (rest : List Lit) → tests_flags (lits_at test set ++ rest) ≡ tests_flags rest
no_flags test off [] rest = refl
no_flags test off (iv ∷ set) rest = ap (λ b. b || tests_flags rest) (off (iv ∷ set))

pub flags_tested : (site : Site) (lits : List Lit) (is : IsDivided site lits) → tests_flags lits ≡ is_some is.options.flags
flags_tested site lits is =
    ap tests_flags is.divides
    ∙ no_flags Via (λ s. refl) (tested 0 lits) _ ∙ no_flags Proto (λ s. refl) (tested 1 lits) _ ∙ no_flags Src (λ s. refl) (tested 2 lits) _
    ∙ no_flags Sport (λ s. refl) (tested 3 lits) _ ∙ no_flags Dst (λ s. refl) (tested 4 lits) _ ∙ no_flags Dport (λ s. refl) (tested 5 lits) _ ∙ is.options.tested_flags

-- Choices among one

pub data AreSingle : List Choice → List Lit → Type 0 where
  single_none : AreSingle [] []
  single_more : {cs : List Choice} {lits : List Lit} (front : List Lit) → AreSingle cs lits → AreSingle (only front ∷ cs) (front ++ lits)

pub single_append : (a b : List Choice) (l m : List Lit) → AreSingle a l → AreSingle b m → AreSingle (a ++ b) (l ++ m)
single_append a b l m single_none k = k
single_append a b l m (single_more {cs = cs} {lits = lits} front h) k = subst (AreSingle (only front ∷ (cs ++ b))) (sym (append_assoc front lits m)) (single_more front (single_append cs b lits m h k))

pub single_one : (front : List Lit) → AreSingle (only front ∷ []) front
single_one front = subst (AreSingle (only front ∷ [])) (append-nil front) (single_more front single_none)

pub single_conditions : (cs : List Choice) (lits : List Lit) → AreSingle cs lits → conditions cs ≡ lits ∷ []
single_conditions cs lits single_none = refl
single_conditions cs lits (single_more {cs = rest} {lits = later} front h) = ap (λ (ls : List (List Lit)). map (λ l. front ++ l) ls ++ []) (single_conditions rest later h)

pub single_count : (cs : List Choice) (lits : List Lit) → AreSingle cs lits → condition_count cs ≡ 1
single_count cs lits single_none = refl
single_count cs lits (single_more {cs = rest} {lits = later} front h) = ap (λ k. 1 * k) (single_count rest later h)

pub values_single : (test : List Iv → Test) (set : List Iv) → AreSingle (value_choices [] test (items_of set)) (lits_at test set)
values_single test [] = single_none
values_single test (iv ∷ set) = single_one (positive (test (iv ∷ set)) ∷ [])

pub side_single : (test : List Iv → Test) (b : Bool) (set : List Iv) → (b ≡ false → set ≡ []) → AreSingle (value_choices [] test (side_items b set)) (lits_at test set)
side_single test true [] h = single_one []
side_single test true (iv ∷ set) h = single_one (positive (test (iv ∷ set)) ∷ [])
side_single test false [] h = single_none
side_single test false (iv ∷ set) h = absurd (let same = h refl in cc)

pub seven_same : (a b c d e f g : List Lit) → ((((((a ++ b) ++ c) ++ d) ++ e) ++ f) ++ g) ++ [] ≡ a ++ (b ++ (c ++ (d ++ (e ++ (f ++ g)))))
seven_same a b c d e f g =
    append-nil ((((((a ++ b) ++ c) ++ d) ++ e) ++ f) ++ g)
    ∙ append_assoc ((((a ++ b) ++ c) ++ d) ++ e) f g
    ∙ append_assoc (((a ++ b) ++ c) ++ d) e (f ++ g)
    ∙ append_assoc ((a ++ b) ++ c) d (e ++ (f ++ g))
    ∙ append_assoc (a ++ b) c (d ++ (e ++ (f ++ g)))
    ∙ append_assoc a b (c ++ (d ++ (e ++ (f ++ g))))

-- Protocols

pub protocol_there : (test : ℕ → Bool) (set : List Iv) → test 0 ≡ false → test (first_number set) ≡ true → has_protocols test (items_of set) ≡ true
protocol_there test [] off h = never (sym off ∙ h)
protocol_there test (iv ∷ set) off h = and_from (test iv.lo) true h refl

-- items that are there stand for numbers that are
pub some_items : (set : List Iv) → nat_le 1 (length (items_of set)) ≡ true → set ≡ [] → ⊥
some_items [] h e = never h
some_items (iv ∷ set) h e = absurd cc

-- what needs a protocol has it
pub needs : (b ok : Bool) → (b ≡ true → ok ≡ true) → (b && not ok) ≡ false
needs true ok h = ap not (h refl)
needs false ok h = refl
