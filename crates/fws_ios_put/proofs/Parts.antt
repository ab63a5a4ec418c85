-- What blocks of entries do with whatever follows them.
use Rattle.std.proofs.Common.{◌≡◌, ℕ, Bool, true, false, ◌&&◌, ◌||◌, not, cond, Some, List, [], ◌∷◌, ◌++◌, refl, sym, ap, ◌∙◌, subst}
use Rattle.std.proofs.Math.Bool.{beq}
use Rattle.std.proofs.lemmas.Bool.{and_from, and_parts, eqb-true, false≢true}
use Rattle.std.proofs.lemmas.List.Folds.{list_all-append}
use Rattle.std.specs.List.{list_all, list_any}
use Rattle.std.specs.Prelude.{slice_index}
use Rattle.fws_box.specs.Sides.{IsWithin}
use Rattle.fws_net.specs.declared.connection.Kind.{Kind}
use Rattle.fws_net.specs.declared.site.Site.{Site}
use Rattle.fws_net.specs.declared.transit.Transit.{Transit}
use Rattle.fws_net.specs.declared.view.View.{View}
use Rattle.fws_net.specs.Conditions.{holds}
use Rattle.fws_net.specs.Points.{tops_of}
use Rattle.fws_ios.specs.declared.config.IosEntry.{IosEntry}
use Rattle.fws_ios.specs.Walk.{permits, view_on}
use Rattle.fws_ios_put_cover.specs.Covers.{IsCover}
use Rattle.fws_ios_put_entries.specs.declared.act.Act.{Act}
use Rattle.fws_ios_put_entries.specs.Entries.{acknowledges}
use Rattle.fws_ios_put_entries.specs.Seen.{IsSeenAt}
use Rattle.fws_ios_print.specs.Printable.{is_printed_entry, is_state}
use Rattle.fws_tree.specs.Plain.{Plain, value}
use Rattle.fws_ios_put.specs.Blocks.{AreWellFormed, Gives, IsDeniedBlock, IsMarkedBlock, Marks}
use Rattle.fws_ios_put.specs.Choices.{is_tcp}
use Rattle.fws_ios_put.specs.Placed.{keeps_state}

-- Lists

-- what passes one test passes another
pub all_weaker : {X : Type 0} (f g : X → Bool) → ((x : X) → f x ≡ true → g x ≡ true) → (xs : List X) → list_all f xs ≡ true → list_all g xs ≡ true
all_weaker f g weaker [] h = refl
all_weaker f g weaker (x ∷ xs) h =
    let both = and_parts (f x) (list_all f xs) h in and_from (g x) (list_all g xs) (weaker x both.0) (all_weaker f g weaker xs both.1)

pub all_both : {X : Type 0} (f : X → Bool) (xs ys : List X) → list_all f xs ≡ true → list_all f ys ≡ true → list_all f (xs ++ ys) ≡ true
all_both f xs ys a b = list_all-append f xs ys ∙ and_from (list_all f xs) (list_all f ys) a b

-- entries that all do the same give it to the packets for which one of them holds
pub same_act : (site : Site) (k : Kind) (m : Transit) (permit : Bool) (test : IosEntry → Bool) → ((e : IosEntry) → test e ≡ true → e.permit ≡ permit)
    → (block : List IosEntry) → list_all test block ≡ true
    → Gives site k m permit block (list_any (λ (e : IosEntry). holds e.cond (view_on site k false m)) block)
same_act site k m permit test does [] h rest = refl
same_act site k m permit test does (e ∷ block) h rest =
    let both = and_parts (test e) (list_all test block) h in
    let v : View = view_on site k false m in
    let behind : Bool = permits site k false rest m in
    ap (λ (b : Bool). cond (holds e.cond v) b (permits site k false (block ++ rest) m)) (does e both.0)
    ∙ ap (λ (b : Bool). cond (holds e.cond v) permit b) (same_act site k m permit test does block both.1 rest)
    ∙ by (holds e.cond v) (list_any (λ (x : IosEntry). holds x.cond v) block) behind where
      by : (h a b : Bool) → cond h permit (cond a permit b) ≡ cond (h || a) permit b
      by true a b = refl
      by false a b = refl

-- Entries

beq_is : (a b : Bool) → beq a b ≡ true → a ≡ b
beq_is true true h = refl
beq_is false false h = refl
beq_is true false h = absurd (false≢true h)
beq_is false true h = absurd (false≢true h)

-- an entry that keeps state where it permits packets
pub keeping : (e : IosEntry) (permit reflect : Bool) → (permit ≡ true → reflect ≡ true) → (beq e.permit permit && beq e.reflect reflect) ≡ true → keeps_state e ≡ true
keeping e permit reflect keeps h =
    let both = and_parts (beq e.permit permit) (beq e.reflect reflect) h in
    by permit reflect keeps e.permit e.reflect (beq_is e.permit permit both.0) (beq_is e.reflect reflect both.1) where
      by : (p r : Bool) → (p ≡ true → r ≡ true) → (a b : Bool) → a ≡ p → b ≡ r → (not a || (b || is_state e.cond)) ≡ true
      by p r keeps false b is rs = refl
      by p r keeps true true is rs = refl
      by p r keeps true false is rs = absurd (false≢true (rs ∙ keeps (sym is)))

pub keeping_first : (e : IosEntry) → beq e.reflect (e.permit && true) ≡ true → keeps_state e ≡ true
keeping_first e h = by e.permit e.reflect (beq_is e.reflect (e.permit && true) h) where
  by : (a b : Bool) → b ≡ (a && true) → (not a || (b || is_state e.cond)) ≡ true
  by false b is = refl
  by true true is = refl
  by true false is = absurd (false≢true is)

pub formed_both : (xs ys : List IosEntry) → AreWellFormed xs → AreWellFormed ys → AreWellFormed (xs ++ ys)
formed_both xs ys a b = record { printed = all_both is_printed_entry xs ys a.printed b.printed; keeps = all_both keeps_state xs ys a.keeps b.keeps }

-- Covers

module _ (site : Site) (act : Act) (needed within : Plain Bool) (block : List IosEntry) (cover : IsCover site act needed within block) where
  does : (e : IosEntry) → (beq e.permit act.permit && beq e.reflect act.reflect) ≡ true → e.permit ≡ act.permit
  does e h = beq_is e.permit act.permit (and_parts (beq e.permit act.permit) (beq e.reflect act.reflect) h).0

  pub cover_formed : (act.permit ≡ true → act.reflect ≡ true) → AreWellFormed block
  cover_formed keeps = record {
    printed = cover.printed;
    keeps = all_weaker (λ (e : IosEntry). beq e.permit act.permit && beq e.reflect act.reflect) keeps_state (λ e h. keeping e act.permit act.reflect keeps h) block cover.acts;
  }

  pub cover_gives : (k : Kind) (m : Transit) → Gives site k m act.permit block (list_any (λ (e : IosEntry). holds e.cond (view_on site k false m)) block)
  cover_gives k m = same_act site k m act.permit (λ (e : IosEntry). beq e.permit act.permit && beq e.reflect act.reflect) does block cover.acts

-- a cover of packets of TCP with ACK or RST
pub marked_block : (site : Site) (permit : Bool) (within excused : List ℕ → Bool) (n w : Plain Bool) (block : List IosEntry)
    → IsCover site (record { permit = permit; reflect = permit; established = true }) n w block
    → ((x : List ℕ) → IsWithin (tops_of site) x → value n x ≡ Some (is_tcp x && (within x && not (excused x))))
    → ((x : List ℕ) → IsWithin (tops_of site) x → value w x ≡ Some (is_tcp x && within x))
    → IsMarkedBlock site permit within excused block
marked_block site permit within excused n w block cover needed around = record {
  formed = cover_formed site (record { permit = permit; reflect = permit; established = true }) n w block cover (λ h. h);
  decides = λ k m x s.
      let v = view_on site k false m in (
        list_any (λ (e : IosEntry). holds e.cond v) block,
        cover_gives site (record { permit = permit; reflect = permit; established = true }) n w block cover k m,
        record {
          marked = λ h. (cover.sound v x s.within s.seen h).1 refl;
          sound = λ h. (and_parts (is_tcp x) (within x) (some_true (is_tcp x && within x) (sym (around x s.within) ∙ (cover.sound v x s.within s.seen h).0))).1;
          whole = λ flagged tcp inside.
              cover.whole v x s.within s.seen (needed x s.within ∙ ap Some (and_from (is_tcp x) (within x && not (excused x)) tcp inside)) (λ h. flagged);
        },
      );
} where
  some_true : (b : Bool) → Some b ≡ Some true → b ≡ true
  some_true b h = cc

-- a cover of what is denied whatever flags it has
pub denied_block : (site : Site) (asked : List ℕ → Bool) (t : Plain Bool) (block : List IosEntry)
    → IsCover site (record { permit = false; reflect = false; established = false }) t t block
    → ((x : List ℕ) → IsWithin (tops_of site) x → value t x ≡ Some (asked x)) → IsDeniedBlock site asked block
denied_block site asked t block cover is = record {
  formed = cover_formed site (record { permit = false; reflect = false; established = false }) t t block cover (λ h. h);
  decides = λ k m x s rest.
      let v = view_on site k false m in
      cover_gives site (record { permit = false; reflect = false; established = false }) t t block cover k m rest
      ∙ ap (λ (b : Bool). cond b false (permits site k false rest m)) (same v x (s.within, s.seen));
} where
  any : View → Bool
  any v = list_any (λ (e : IosEntry). holds e.cond v) block

  not_true : true ≡ false → ⊥
  not_true h = cc

  same : (v : View) (x : List ℕ) → IsWithin (tops_of site) x × IsSeenAt v.packet x → list_any (λ (e : IosEntry). holds e.cond v) block ≡ asked x
  same v x s = by (asked x) refl (list_any (λ (e : IosEntry). holds e.cond v) block) refl where
    by : (a : Bool) → asked x ≡ a → (h : Bool) → list_any (λ (e : IosEntry). holds e.cond v) block ≡ h → list_any (λ (e : IosEntry). holds e.cond v) block ≡ asked x
    by true a h e = cover.whole v x s.0 s.1 (is x s.0 ∙ ap Some a) (λ n. absurd (false≢true n)) ∙ sym a
    by false a false e = e ∙ sym a
    by false a true e = absurd (false≢true (some_true (sym (ap Some a) ∙ sym (is x s.0) ∙ (cover.sound v x s.0 s.1 e).0))) where
      some_true : Some false ≡ Some true → false ≡ true
      some_true h = cc

-- Functions of points that agree

pub marked_as : (site : Site) (permit : Bool) (f g h k : List ℕ → Bool) (block : List IosEntry) → ((x : List ℕ) → IsWithin (tops_of site) x → f x ≡ h x)
    → ((x : List ℕ) → IsWithin (tops_of site) x → g x ≡ k x) → IsMarkedBlock site permit f g block → IsMarkedBlock site permit h k block
marked_as site permit f g h k block fs gs marked = record {
  formed = marked.formed;
  decides = λ kind m x s.
      let here = marked.decides kind m x s in (
        here.0,
        here.1,
        subst (λ (b : Bool). Marks (acknowledges m.packet) (is_tcp x) (h x) b here.0) (gs x s.within)
            (subst (λ (b : Bool). Marks (acknowledges m.packet) (is_tcp x) b (g x) here.0) (fs x s.within) here.2),
      );
}

-- What is needed lies within

pub needed_inside : (tcp within excused : Bool) → (tcp && (within && not excused)) ≡ true → (tcp && within) ≡ true
needed_inside true true excused h = refl
needed_inside true false excused h = h
needed_inside false within excused h = h

-- what is needed isn't excused by what isn't needed
pub twice_denied : (needed tcp within : Bool) → (needed ≡ true → (tcp && within) ≡ true) → needed ≡ (tcp && (within && not (not needed)))
twice_denied true true true h = refl
twice_denied true true false h = sym (h refl)
twice_denied true false within h = sym (h refl)
twice_denied false true true h = refl
twice_denied false true false h = refl
twice_denied false false within h = refl

-- a block for what is needed
pub marked_needed : (site : Site) (permit : Bool) (within excused needed : List ℕ → Bool) (block : List IosEntry)
    → ((x : List ℕ) → IsWithin (tops_of site) x → needed x ≡ (is_tcp x && (within x && not (excused x))))
    → IsMarkedBlock site permit within (λ x. not (needed x)) block → IsMarkedBlock site permit within excused block
marked_needed site permit within excused needed block is marked = record {
  formed = marked.formed;
  decides = λ k m x s.
      let here = marked.decides k m x s in (
        here.0,
        here.1,
        record {
          marked = here.2.marked;
          sound = here.2.sound;
          whole = λ flagged tcp inside. here.2.whole flagged tcp (by (is_tcp x) (within x) (excused x) (needed x) (is x s.within) tcp inside);
        },
      );
} where
  by : (t w e n : Bool) → n ≡ (t && (w && not e)) → t ≡ true → (w && not e) ≡ true → (w && not (not n)) ≡ true
  by t w e n is tcp inside =
      let both = and_parts w (not e) inside in
      let wanted : n ≡ true = is ∙ and_from t (w && not e) tcp inside in
      and_from w (not (not n)) both.0 (ap (λ (b : Bool). not (not b)) wanted)

pub needed_within : (site : Site) (within excused : List ℕ → Bool) (n w : Plain Bool) → ((x : List ℕ) → IsWithin (tops_of site) x → value n x ≡ Some (is_tcp x && (within x && not (excused x))))
    → ((x : List ℕ) → IsWithin (tops_of site) x → value w x ≡ Some (is_tcp x && within x))
    → (x : List ℕ) → IsWithin (tops_of site) x → value n x ≡ Some true → (value w x ≡ Some true) × (slice_index x 1 ≡ 6)
needed_within site within excused n w needed around x inside h =
    let both = and_parts (is_tcp x) (within x && not (excused x)) (some_true (is_tcp x && (within x && not (excused x))) (sym (needed x inside) ∙ h)) in
    let part = and_parts (within x) (not (excused x)) both.1 in
    (around x inside ∙ ap Some (and_from (is_tcp x) (within x) both.0 part.0), eqb-true (slice_index x 1) 6 both.0) where
      some_true : (b : Bool) → Some b ≡ Some true → b ≡ true
      some_true b h = cc
