-- Lists that are put together of blocks.
use Rattle.std.proofs.Common.{◌≡◌, ℕ, ◌<◌, Bool, true, false, ◌&&◌, ◌||◌, not, cond, List, [], ◌∷◌, ◌++◌, length, refl, ap, ◌∙◌, arith, append_assoc}
use Rattle.std.proofs.lemmas.Bool.{and_from}
use Rattle.fws_box.specs.Sides.{IsWithin}
use Rattle.fws_net.specs.declared.connection.Kind.{Kind}
use Rattle.fws_net.specs.declared.site.Site.{Site}
use Rattle.fws_net.specs.declared.transit.Transit.{Transit}
use Rattle.fws_net.specs.Conditions.{holds}
use Rattle.fws_net.specs.Connections.{is_est}
use Rattle.fws_net.specs.Points.{tops_of}
use Rattle.fws_ios.specs.declared.config.IosEntry.{IosEntry}
use Rattle.fws_ios.specs.Walk.{permits, view_on}
use Rattle.fws_ios_put_lists.specs.FirstMatch.{IsFirstMatch}
use Rattle.fws_ios_put_entries.specs.Entries.{acknowledges, IsStateEntry}
use Rattle.fws_ios_print.specs.Printable.{has_entries, is_printed_entry, is_state}
use Rattle.fws_ios_put.specs.declared.choices.Choices.{Choices}
use Rattle.fws_ios_put.specs.Blocks.{AreWellFormed, IsAhead, IsBack, IsDeniedBlock, IsFront, IsListOf, IsMarkedBlock, said_ahead}
use Rattle.fws_ios_put.specs.Choices.{is_tcp, IsAskable, truth}
use Rattle.fws_ios_put.specs.Placed.{keeps_state}
use Rattle.fws_ios_put.proofs.ListsSay.{begun_list, plain_list, whole_list}
use Rattle.fws_ios_put.proofs.Parts.{all_weaker, formed_both, keeping_first}

module _ (site : Site) (c : Choices) where
  -- Ahead

  pub ahead_of : (a b d : List IosEntry) → IsMarkedBlock site true (truth c.acked_fresh.1) (truth c.known.1) a → IsDeniedBlock site (λ x. not (truth c.known.1 x)) b
      → IsMarkedBlock site false (λ x. not (truth c.acked_known.1 x)) (λ x. not (truth c.known.1 x)) d → IsAhead site c (a ++ b ++ d)
  ahead_of a b d first second third = record {
    formed = formed_both (a ++ b) d (formed_both a b first.formed second.formed) third.formed;
    decides = λ k m x s.
        let f = first.decides k m x s in
        let t = third.decides k m x s in (
          f.0,
          t.0,
          (λ rest.
              ap (λ (l : List IosEntry). permits site k false l m) (append_assoc (a ++ b) d rest ∙ append_assoc a b (d ++ rest))
              ∙ f.1 (b ++ (d ++ rest))
              ∙ ap (λ (r : Bool). cond f.0 true r) (second.decides k m x s (d ++ rest))
              ∙ ap (λ (r : Bool). cond f.0 true (cond (not (truth c.known.1 x)) false r)) (t.1 rest)),
          record { begins = f.2; ends = t.2 },
        );
  }

  -- Behind

  entries_there : (block : List IosEntry) → 0 < length block → has_entries block ≡ true
  entries_there [] h = absurd (omega arith)
  entries_there (e ∷ block) h = refl

  there_behind : (a b : List IosEntry) → has_entries b ≡ true → has_entries (a ++ b) ≡ true
  there_behind [] b h = h
  there_behind (e ∷ a) b h = refl

  pub back_of : (a b d : List IosEntry) → IsAskable site c.fresh → IsMarkedBlock site true (truth c.acked_fresh.1) (truth c.fresh.1) a
      → IsMarkedBlock site false (λ x. not (truth c.acked_fresh.1 x)) (λ x. not (truth c.fresh.1 x)) b → IsFirstMatch site c.fresh.1 true d → IsBack site c (a ++ b ++ d)
  back_of a b d askable adds takes last = record {
    there = there_behind (a ++ b) d (entries_there d last.some);
    formed = formed_both (a ++ b) d (formed_both a b adds.formed takes.formed) (record { printed = last.printed; keeps = all_weaker _ keeps_state keeping_first d last.keeps });
    decides = λ k m x s.
        let f = adds.decides k m x s in
        let t = takes.decides k m x s in (
          f.0,
          t.0,
          ap (λ (l : List IosEntry). permits site k false l m) (append_assoc a b d)
              ∙ f.1 (b ++ d)
              ∙ ap (λ (r : Bool). cond f.0 true r) (t.1 d)
              ∙ ap (λ (r : Bool). cond f.0 true (cond t.0 false r)) (last.decides k false m x (truth c.fresh.1 x) s.within s.seen (askable.valued x s.within)),
          record { adds = f.2; takes = t.2 },
        );
  }

  -- Fronts

  -- the entry for packets of connections
  state_formed : (e : IosEntry) → IsStateEntry e → AreWellFormed (e ∷ [])
  state_formed e state = record {
    printed = and_from (is_printed_entry e) true state.printed refl;
    keeps = and_from (keeps_state e) true (ap (λ (b : Bool). not b || (e.reflect || is_state e.cond)) state.permit ∙ ap (λ (b : Bool). b || is_state e.cond) state.reflect ∙ ap is_state state.cond) refl;
  }

  state_gives : (e : IosEntry) → IsStateEntry e → (k : Kind) (m : Transit) (rest : List IosEntry)
      → permits site k false (e ∷ rest) m ≡ cond (is_est k) true (permits site k false rest m)
  state_gives e state k m rest =
      ap (λ (b : Bool). cond (holds e.cond (view_on site k false m)) b (permits site k false rest m)) state.permit
      ∙ ap (λ cond_of. cond (holds cond_of (view_on site k false m)) true (permits site k false rest m)) state.cond
      ∙ ap (λ (b : Bool). cond b true (permits site k false rest m)) (by (is_est k)) where
        by : (b : Bool) → (b && true) ≡ b
        by true = refl
        by false = refl

  nothing_formed : AreWellFormed []
  nothing_formed = record { printed = refl; keeps = refl }

  -- where no packets are permitted in connections alone
  pub no_front : ((x : List ℕ) → IsWithin (tops_of site) x → truth c.known.1 x ≡ true → truth c.fresh.1 x ≡ true)
      → ((x : List ℕ) → IsWithin (tops_of site) x → is_tcp x ≡ true → truth c.acked_known.1 x ≡ true → truth c.acked_fresh.1 x ≡ true) → IsFront site c []
  no_front back acked_back = record {
    formed = nothing_formed;
    decides = λ k m x rest added taken s asked is behind.
        is ∙ plain_list (is_est k) (acknowledges m.packet) (is_tcp x) (truth c.fresh.1 x) (truth c.known.1 x) (truth c.acked_fresh.1 x) (truth c.acked_known.1 x) added taken asked
        behind.adds behind.takes (back x s.within) (acked_back x s.within);
  }

  -- where all packets are permitted in some connection
  pub state_front : (e : IosEntry) → IsStateEntry e → ((x : List ℕ) → IsWithin (tops_of site) x → truth c.known.1 x ≡ true)
      → ((x : List ℕ) → IsWithin (tops_of site) x → is_tcp x ≡ true → truth c.acked_known.1 x ≡ true) → IsFront site c (e ∷ [])
  state_front e state all acked_all = record {
    formed = state_formed e state;
    decides = λ k m x rest added taken s asked is behind.
        state_gives e state k m rest ∙ ap (λ (b : Bool). cond (is_est k) true b) is
        ∙ begun_list (is_est k) (acknowledges m.packet) (is_tcp x) (truth c.fresh.1 x) (truth c.known.1 x) (truth c.acked_fresh.1 x) (truth c.acked_known.1 x) added taken asked
        behind.adds behind.takes (all x s.within) (acked_all x s.within);
  }

  -- in general
  pub whole_front : (a : List IosEntry) (e : IosEntry) → IsAhead site c a → IsStateEntry e → IsFront site c (a ++ e ∷ [])
  whole_front a e ahead state = record {
    formed = formed_both a (e ∷ []) ahead.formed (state_formed e state);
    decides = λ k m x rest added taken s asked is behind.
        let f = ahead.decides k m x s in
        ap (λ (l : List IosEntry). permits site k false l m) (append_assoc a (e ∷ []) rest)
        ∙ f.2 (e ∷ rest)
        ∙ ap (λ (b : Bool). said_ahead f.0 (not (truth c.known.1 x)) f.1 b) (state_gives e state k m rest ∙ ap (λ (b : Bool). cond (is_est k) true b) is)
        ∙ whole_list (is_est k) (acknowledges m.packet) (is_tcp x) (truth c.fresh.1 x) (truth c.known.1 x) (truth c.acked_fresh.1 x) (truth c.acked_known.1 x) f.0 (not (truth c.known.1 x)) f.1 added taken
        asked f.3.begins refl f.3.ends behind.adds behind.takes;
  }

  -- Whole lists

  pub list_of : (a b : List IosEntry) → IsFront site c a → IsBack site c b → IsListOf site c (a ++ b)
  list_of a b front back = record {
    there = there_behind a b back.there;
    formed = formed_both a b front.formed back.formed;
    decides = λ k m x s asked. let f = back.decides k m x s in front.decides k m x b f.0 f.1 s asked f.2 f.3;
  }
