-- The rules of a pass, put one part behind the other, and both passes.
use Rattle.std.proofs.Common.{◌≡◌, ℕ, ◌+◌, Bool, true, false, cond, List, [], ◌∷◌, ◌++◌, length, take, drop, codes, arith, sym, ap, ◌∙◌, subst, length-append, append_assoc, append-nil}
use Rattle.fws_ifcl.specs.declared.diagram.Chain.{Chain}
use Rattle.fws_ifcl.specs.declared.diagram.Ifcl.{Ifcl}
use Rattle.fws_ifcl.specs.declared.diagram.Rule.{Rule}
use Rattle.fws_pfo.specs.declared.config.PfoConfig.{PfoConfig}
use Rattle.fws_pfo.specs.declared.config.PfoRule.{PfoRule}
use Rattle.fws_pfo_ifcl.specs.declared.frame.Frame.{Frame}
use Rattle.fws_pfo_ifcl.specs.declared.ruling.Ruling.{Ruling}
use Rattle.fws_pfo_ifcl.specs.Blocks.{EndsIn, IsFiltered, IsTail, ahead_rules, held_rules, met_rules, ruling_rules, tail_place, tail_rules, tail_rulings}
use Rattle.fws_pfo_ifcl.specs.Diagram.{ArePasses, IsDrawn, IsPass, frame_of, front_rules, pass_rules, pass_stage}
use Rattle.fws_pfo_ifcl.specs.Rulings.{StandFor}

-- Rulings

-- a further ruling
rules_more : (outward : Bool) (at : ℕ) (all : List Ruling) (one : Ruling)
    → tail_rules outward at (all ++ one ∷ []) ≡ tail_rules outward at all ++ ruling_rules outward (at + length (tail_rules outward at all)) one
rules_more outward at [] one =
    let same : at ≡ at + 0 = omega arith in
    append-nil (ruling_rules outward at one) ∙ ap (λ n. ruling_rules outward n one) same
rules_more outward at (first ∷ all) one =
    let here = ruling_rules outward at first in
    let place = at + length here in
    let rest = tail_rules outward place all in
    let many : length (here ++ rest) ≡ length here + length rest = length-append here rest in
    let same : place + length rest ≡ at + length (here ++ rest) = omega (arith, many) in
    ap (λ l. here ++ l) (rules_more outward place all one)
    ∙ sym (append_assoc here rest (ruling_rules outward (place + length rest) one))
    ∙ ap (λ n. here ++ rest ++ ruling_rules outward n one) same

pub rules_put : (outward : Bool) (o a b : List Rule) (all : List Ruling) (one : Ruling) → a ≡ o ++ tail_rules outward (length o) all
    → b ≡ a ++ ruling_rules outward (length a) one → b ≡ o ++ tail_rules outward (length o) (all ++ one ∷ [])
rules_put outward o a b all one are put =
    let before = tail_rules outward (length o) all in
    let long : length a ≡ length o + length before = ap length are ∙ length-append o before in
    put
    ∙ ap (λ n. a ++ ruling_rules outward n one) long
    ∙ ap (λ l. l ++ ruling_rules outward (length o + length before) one) are
    ∙ append_assoc o before (ruling_rules outward (length o + length before) one)
    ∙ ap (λ l. o ++ l) (sym (rules_more outward (length o) all one))

-- The rules of rules

-- those ahead of the tail, those of the tail, and those of ends that are held
pub filtered : (f : Frame) (rs : List PfoRule) (a b d e : List Rule) (n : ℕ) (head tail : List PfoRule) → n ≡ tail_place f.outward rs → head ≡ take n rs → tail ≡ drop n rs
    → b ≡ a ++ met_rules f false (length a) head → EndsIn f.outward tail b d → e ≡ d ++ held_rules f (length d) 1 f.ends → IsFiltered f rs a e
filtered f rs a b d e n head tail at front back met ends held =
    let rulings = ends.rulings in
    let ahead = ahead_rules f (length a) rs in
    let place = length a + length ahead in
    let middle = tail_rules f.outward place rulings in
    let first : b ≡ a ++ ahead = met ∙ ap (λ l. a ++ met_rules f false (length a) l) (front ∙ ap (λ k. take k rs) at) in
    let long : length b ≡ place = ap length first ∙ length-append a ahead in
    let second : d ≡ a ++ (ahead ++ middle) =
    ends.are ∙ ap (λ k. b ++ tail_rules f.outward k rulings) long ∙ ap (λ l. l ++ middle) first ∙ append_assoc a ahead middle in
    let later : length d ≡ length a + length (ahead ++ middle) = ap length second ∙ length-append a (ahead ++ middle) in
    record {
      tail = rulings;
      stands = subst (λ (l : List PfoRule). StandFor rulings (tail_rulings f.outward l)) (back ∙ ap (λ k. drop k rs) at) ends.stand;
      are = held
          ∙ ap (λ k. d ++ held_rules f k 1 f.ends) later
          ∙ ap (λ l. l ++ held_rules f (length a + length (ahead ++ middle)) 1 f.ends) second
          ∙ append_assoc a (ahead ++ middle) (held_rules f (length a + length (ahead ++ middle)) 1 f.ends);
    }

-- those of a pass
pub pass_put : (outward : Bool) (c : PfoConfig) (f : Frame) (front rules : List Rule) (all : List PfoRule) → f ≡ frame_of outward c → front ≡ front_rules outward c → all ≡ c.rules
    → IsFiltered f all front rules → IsPass outward c rules
pass_put outward c f front rules all framed ahead are h =
    let whole : IsFiltered (frame_of outward c) c.rules (front_rules outward c) rules =
    subst (λ (g : Frame). IsFiltered g c.rules (front_rules outward c) rules) framed
    (subst (λ (l : List PfoRule). IsFiltered f l (front_rules outward c) rules) are (subst (λ (l : List Rule). IsFiltered f all l rules) ahead h)) in
    record { tail = whole.tail; stands = whole.stands; are = whole.are }

-- Both passes

pub both_passes : (c : PfoConfig) (a b d : List Chain) (one two : List Rule) → IsPass false c one → IsPass true c two
    → b ≡ a ++ record { name = codes "in"; rules = one } ∷ [] → d ≡ b ++ record { name = codes "out"; rules = two } ∷ [] → ArePasses c a d
both_passes c a b d one two inward outward first second =
    let tails : Bool → List Ruling = λ side. cond side outward.tail inward.tail in
    let these : one ≡ pass_rules tails false c = inward.are in
    let those : two ≡ pass_rules tails true c = outward.are in
    record {
      tails = tails;
      stand = stand (λ side. IsTail side c.rules) inward.tail outward.tail inward.stands outward.stands;
      are = second
          ∙ ap (λ (l : List Chain). l ++ record { name = codes "out"; rules = two } ∷ []) first
          ∙ append_assoc a (record { name = codes "in"; rules = one } ∷ []) (record { name = codes "out"; rules = two } ∷ [])
          ∙ ap (λ (rs : List Rule). a ++ record { name = codes "in"; rules = rs } ∷ record { name = codes "out"; rules = two } ∷ []) these
          ∙ ap (λ (rs : List Rule). a ++ record { name = codes "in"; rules = pass_rules tails false c } ∷ record { name = codes "out"; rules = rs } ∷ []) those;
    }
  where
    stand : (P : Bool → List Ruling → Type 0) (x y : List Ruling) → P false x → P true y → (side : Bool) → P side (cond side y x)
    stand P x y p q false = p
    stand P x y p q true = q

pub behind_none : (c : PfoConfig) (a d : List Chain) → a ≡ [] → ArePasses c a d → ArePasses c [] d
behind_none c a d none are = subst (λ (l : List Chain). ArePasses c l d) none are

pub whole : (c : PfoConfig) (chains : List Chain) (d : Ifcl) → ArePasses c [] chains
    → d ≡ record { chains = chains; arrive = pass_stage false ∷ []; deliver = []; forward = pass_stage true ∷ []; send = pass_stage true ∷ [] } → IsDrawn c d
whole c chains d passes is = record {
  tails = passes.tails;
  stand = passes.stand;
  are = is ∙ ap (λ (l : List Chain). record { chains = l; arrive = pass_stage false ∷ []; deliver = []; forward = pass_stage true ∷ []; send = pass_stage true ∷ [] }) passes.are;
}
