-- Blocks of entries, put together.
use Rattle.std.proofs.Common.{◌≡◌, ◌⊎◌, ℕ, zero, suc, ◌+◌, ◌-◌, ◌<◌, Bool, true, false, ◌&&◌, not, Option, Some, List, [], ◌∷◌, ◌++◌, length, drop, get_or, inl, inr, refl, sym, ◌∙◌, ap, subst, arith, append_assoc, append-nil}
use Rattle.std.proofs.lemmas.Bool.{and_from, or_parts, cond-true, cond-false, false≢true}
use Rattle.std.proofs.lemmas.List.{drop_more}
use Rattle.std.proofs.lemmas.List.Folds.{list_all-append}
use Rattle.std.proofs.lemmas.Option.{same_Some}
use Rattle.std.proofs.Math.Bool.{beq}
use Rattle.std.specs.List.{list_all}
use Rattle.fws_box.specs.Sides.{IsWithin}
use Rattle.fws_net.specs.declared.packet.Packet.{Packet}
use Rattle.fws_net.specs.declared.site.Site.{Site}
use Rattle.fws_net.specs.Conditions.{holds}
use Rattle.fws_net.specs.Points.{tops_of}
use Rattle.fws_ios.specs.declared.config.IosEntry.{IosEntry}
use Rattle.fws_ios.specs.Walk.{view_on}
use Rattle.fws_ios_put_entries.specs.declared.path.Path.{Path}
use Rattle.fws_ios_put_entries.specs.declared.side.Side.{Side}
use Rattle.fws_ios_put_entries.specs.declared.side.Side.TheVariants.{Proto, Dst, Dport, Src, Sport, Icmp}
use Rattle.fws_ios_put_entries.specs.Entries.{IsEntryOf}
use Rattle.fws_ios_put_entries.specs.Paths.{asks, nothing_asked, path_has, IsWritable}
use Rattle.fws_ios_put_entries.specs.Seen.{IsListed}
use Rattle.fws_ios_print.specs.Printable.{is_printed_entry}
use Rattle.fws_tree.specs.Plain.{leaf, value}
use Rattle.fws_ios_put_lists.specs.declared.turn.Turn.{Turn}
use Rattle.fws_ios_put_lists.specs.Blocks.{below, says, AreFine, AreNodeEntries, IsGiven, IsGoodPath, IsPassed, IsPathTo, IsPlanned, IsPoint, Meeting, Scene}
use Rattle.fws_ios_put_lists.specs.Entries.{act_of, AreLeafEntries, IsEntry}
use Rattle.fws_ios_put_lists.specs.FirstMatch.{is_classless, keeps_state, IsFirstMatch}
use Rattle.fws_ios_put_lists.specs.Turns.{some_turn_has, AreTurnEntries, AreTurns, Leads}
use Rattle.fws_ios_put_lists.proofs.Coming.{come_last, leaf_come}
use Rattle.fws_ios_put_lists.proofs.Turning.{point_addresses}

-- ---- entries

-- the entry of a leaf
pub entry_is : (permit keep : Bool) (path : Path) (e : IosEntry) → IsEntryOf (act_of permit keep) path e → IsEntry permit keep path e
entry_is permit keep path e h = record {
  permit_is = h.permit;
  reflect_is = h.reflect;
  printed = h.printed;
  classless = ap not h.classless;
  holds_is = λ v. h.holds v ∙ whole (path_has path v.packet);
}
  where
    whole : (b : Bool) → (b && true) ≡ b
    whole true = refl
    whole false = refl

same_bools : (b : Bool) → beq b b ≡ true
same_bools true = refl
same_bools false = refl

keeps_by : (permit keep : Bool) (path : Path) (e : IosEntry) → IsEntry permit keep path e → keeps_state keep e ≡ true
keeps_by permit keep path e h = ap (λ b. beq e.reflect (b && keep)) h.permit_is ∙ ap (λ b. beq b (permit && keep)) h.reflect_is ∙ same_bools (permit && keep)

no_fine : (keep : Bool) → AreFine keep []
no_fine keep = record { printed = refl; keeps = refl; classless = refl }

one_fine : (permit keep : Bool) (path : Path) (e : IosEntry) → IsEntry permit keep path e → AreFine keep (e ∷ [])
one_fine permit keep path e h = record {
  printed = and_from (is_printed_entry e) true h.printed refl;
  keeps = and_from (keeps_state keep e) true (keeps_by permit keep path e h) refl;
  classless = and_from (is_classless e) true h.classless refl;
}

both_fine : (keep : Bool) (a b : List IosEntry) → AreFine keep a → AreFine keep b → AreFine keep (a ++ b)
both_fine keep a b f g = record {
  printed = list_all-append is_printed_entry a b ∙ and_from (list_all is_printed_entry a) (list_all is_printed_entry b) f.printed g.printed;
  keeps = list_all-append (keeps_state keep) a b ∙ and_from (list_all (keeps_state keep) a) (list_all (keeps_state keep) b) f.keeps g.keeps;
  classless = list_all-append is_classless a b ∙ and_from (list_all is_classless a) (list_all is_classless b) f.classless g.classless;
}

-- a packet on its path meets it, others don't
met : (permit keep : Bool) (path : Path) (e : IosEntry) (g : Meeting) (rest : List IosEntry) → IsEntry permit keep path e → path_has path g.transit.packet ≡ true → says g (e ∷ rest) ≡ permit
met permit keep path e g rest h on =
    cond-true (holds e.cond (view_on g.site g.kind g.outward g.transit)) e.permit (says g rest) (h.holds_is (view_on g.site g.kind g.outward g.transit) ∙ on) ∙ h.permit_is

missed : (permit keep : Bool) (path : Path) (e : IosEntry) (g : Meeting) (rest : List IosEntry) → IsEntry permit keep path e → path_has path g.transit.packet ≡ false → says g (e ∷ rest) ≡ says g rest
missed permit keep path e g rest h off =
    cond-false (holds e.cond (view_on g.site g.kind g.outward g.transit)) e.permit (says g rest) (h.holds_is (view_on g.site g.kind g.outward g.transit) ∙ off)

-- ---- leaves

pub leaf_entries : (s : Scene) (keep : Bool) (at : ℕ) (path : Path) (falls : Option Bool) (permit : Bool) (block : List IosEntry) → below s at ≡ leaf permit → AreLeafEntries permit keep path falls block
    → AreNodeEntries s keep at path falls block
leaf_entries s keep at path falls permit block is (inl h) = subst (λ l. AreNodeEntries s keep at path falls l) (sym h.1) (record {
  fine = no_fine keep;
  passes = λ g rest fine off. refl;
  decides = λ g rest x b point on come. inr (h.0 ∙ ap Some (leaf_come s at x permit b is point.within come), refl);
})
leaf_entries s keep at path falls permit block is (inr h) = subst (λ l. AreNodeEntries s keep at path falls l) (sym h.1) (record {
  fine = one_fine permit keep path h.0 h.2;
  passes = λ g rest fine off. missed permit keep path h.0 g rest h.2 off;
  decides = λ g rest x b point on come. inl (met permit keep path h.0 g rest h.2 on ∙ leaf_come s at x permit b is point.within come);
})

-- ---- turns

pub no_turn_entries : (s : Scene) (keep : Bool) (falls : Option Bool) (turns : List Turn) → AreTurnEntries s keep falls turns 0 []
no_turn_entries s keep falls turns = record {
  fine = no_fine keep;
  passes = λ g rest fine off. refl;
  decides = λ g rest x b point h. inr (h, refl);
}

turn_off : (turns : List Turn) (n : ℕ) (d : Turn) (p : Packet) → n < length turns → some_turn_has turns p ≡ false → path_has (get_or turns n d).path p ≡ false
turn_off [] n d p lt off = absurd (omega (arith, lt))
turn_off (t ∷ turns) zero d p lt off = (or_parts (path_has t.path p) (some_turn_has turns p) off).0
turn_off (t ∷ turns) (suc n) d p lt off = turn_off turns n d p (omega (arith, lt)) (or_parts (path_has t.path p) (some_turn_has turns p) off).1

pub turn_entries_more : (s : Scene) (keep : Bool) (falls : Option Bool) (turns : List Turn) (n : ℕ) (d : Turn) (a b : List IosEntry) → IsPlanned s → n < length turns → AreTurnEntries s keep falls turns n a
    → AreNodeEntries s keep (get_or turns n d).node (get_or turns n d).path (get_or turns n d).falls b → AreTurnEntries s keep falls turns (n + 1) (a ++ b)
turn_entries_more s keep falls turns n d a b planned lt h own =
    let next : drop n turns ≡ get_or turns n d ∷ drop (n + 1) turns = drop_more turns n d lt in record {
      fine = both_fine keep a b h.fine own.fine;
      passes = λ g rest fine off.
          ap (λ l. says g l) (append_assoc a b rest) ∙ h.passes g (b ++ rest) fine off ∙ own.passes g rest fine (turn_off turns n d g.transit.packet lt off);
      decides = λ g rest x v point leads.
          let whole : says g ((a ++ b) ++ rest) ≡ says g (a ++ (b ++ rest)) = ap (λ l. says g l) (append_assoc a b rest) in
          elim (h.decides g (b ++ rest) x v point leads) [
            | inl given ↦ inl (whole ∙ given)
            | inr on ↦ by g rest x v point whole on.1 (subst (λ l. Leads s falls g.transit.packet x v l) next on.0)
          ];
    }
  where
    by : (g : Meeting) (rest : List IosEntry) (x : List ℕ) (v : Bool) → IsPoint s g.transit.packet x → says g ((a ++ b) ++ rest) ≡ says g (a ++ (b ++ rest)) → IsPassed g a (b ++ rest)
        → Leads s falls g.transit.packet x v (get_or turns n d ∷ drop (n + 1) turns) → IsGiven g (a ++ b) rest v ⊎ (Leads s falls g.transit.packet x v (drop (n + 1) turns) × IsPassed g (a ++ b) rest)
    by g rest x v point whole passed (inl here) = elim (own.decides g rest x v point here.0 here.1) [
      | inl given ↦ inl (whole ∙ passed ∙ given)
      | inr on ↦ inr (here.2 on.0, whole ∙ passed ∙ on.1)
    ]
    by g rest x v point whole passed (inr there) = inr (there.1, whole ∙ passed ∙ own.passes g rest (point_addresses s g.transit.packet x planned point) there.0)

pub drop_whole : (turns : List Turn) → drop (length turns) turns ≡ []
drop_whole [] = refl
drop_whole (t ∷ turns) = drop_whole turns

-- the entries of all turns of a cut are those of its node
pub cut_entries : (s : Scene) (keep : Bool) (at : ℕ) (path : Path) (falls : Option Bool) (turns : List Turn) (block : List IosEntry) → AreTurns s at path falls turns
    → AreTurnEntries s keep falls turns (length turns) block → AreNodeEntries s keep at path falls block
cut_entries s keep at path falls turns block made h = record {
  fine = h.fine;
  passes = λ g rest fine off. h.passes g rest fine (made.none g.transit.packet fine off);
  decides = λ g rest x b point on come. elim (h.decides g rest x b point (made.leads g.transit.packet x b point on come)) [
    | inl given ↦ inl given
    | inr done ↦ inr (subst (λ l. Leads s falls g.transit.packet x b l) (drop_whole turns) done.0, done.1)
  ];
}

-- ---- the whole list

-- a path on which nothing is asked
pub nothing_good : (from : ℕ) → IsGoodPath from nothing_asked
nothing_good from = record { writable = nothing_writable; free = λ side le. free side }
  where
    nothing_writable : IsWritable nothing_asked
    nothing_writable = record {
      proto = tt;
      src = tt;
      sport = tt;
      dst = tt;
      dport = tt;
      icmp = tt;
      source_port = λ e. e;
      destination_port = λ e. e;
      typed = λ e. absurd (false≢true e);
    }

    free : (side : Side) → asks side nothing_asked ≡ false
    free Proto = refl
    free Dst = refl
    free Dport = refl
    free Src = refl
    free Sport = refl
    free Icmp = refl

pub nothing_path : (s : Scene) (n : ℕ) → IsPathTo s n nothing_asked
nothing_path s n = (0, nothing_good 0, λ f kids e. omega arith)

-- what was put is there if the list is longer
pub longer_by : (old block : List IosEntry) (k : ℕ) → length (old ++ block) ≡ k → (k ≡ length old → ⊥) → 0 < length block
longer_by old [] k size differs = absurd (differs (sym size ∙ ap length (append-nil old)))
longer_by old (e ∷ block) k size differs = omega arith

pub longer : (block : List IosEntry) (e : IosEntry) → 0 < length (block ++ e ∷ [])
longer [] e = omega arith
longer (a ∷ block) e = omega arith

-- with the entry that denies all behind them entries of all packets decide on each
pub denied_entries : (s : Scene) (keep : Bool) (at : ℕ) (block : List IosEntry) (e : IosEntry) → AreNodeEntries s keep at nothing_asked (Some false) block → IsEntry false keep nothing_asked e
    → AreNodeEntries s keep at nothing_asked (Some false) (block ++ e ∷ [])
denied_entries s keep at block e h entry = record {
  fine = both_fine keep block (e ∷ []) h.fine (one_fine false keep nothing_asked e entry);
  passes = λ g rest fine off. absurd (false≢true (sym off));
  decides = λ g rest x b point on come.
      let whole : says g ((block ++ e ∷ []) ++ rest) ≡ says g (block ++ e ∷ rest) = ap (λ l. says g l) (append_assoc block (e ∷ []) rest) in
      elim (h.decides g (e ∷ rest) x b point on come) [
        | inl given ↦ inl (whole ∙ given)
        | inr falls ↦ inl (whole ∙ falls.1 ∙ met false keep nothing_asked e g rest entry refl ∙ same_Some false b falls.0)
      ];
}

-- entries of all packets, behind which these are denied
pub whole_list : (s : Scene) (site : Site) (keep : Bool) (block : List IosEntry) → IsPlanned s → s.tops ≡ tops_of site → IsListed s.tops (value s.tree)
    → AreNodeEntries s keep (length s.nodes - 1) nothing_asked (Some false) block → 0 < length block → IsFirstMatch site s.tree keep block
whole_list s site keep block planned tops listed h some = record {
  some = some;
  printed = h.fine.printed;
  keeps = h.fine.keeps;
  classless = h.fine.classless;
  decides = λ k outward m x b within seen is.
      let g : Meeting = record { site = site; kind = k; outward = outward; transit = m } in
      let point : IsPoint s m.packet x = record { within = subst (λ l. IsWithin l x) (sym tops) within; seen = seen } in
      let all : says g block ≡ says g (block ++ []) = ap (λ l. says g l) (sym (append-nil block)) in
      elim (h.decides g [] x b point refl (come_last s x b planned listed point.within is)) [
        | inl given ↦ all ∙ given
        | inr falls ↦ all ∙ falls.1 ∙ same_Some false b falls.0
      ];
}
