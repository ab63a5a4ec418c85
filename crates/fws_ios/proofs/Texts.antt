-- What holds of a text, line by line.
use Rattle.std.proofs.Common.{◌≡◌, ℕ, suc, Bool, true, false, ◌&&◌, not, nat_eq, Option, is_some, Result, Ok, Err, List, [], ◌∷◌, drop, filter, length, codes, decimal, IfOk, IfSome, refl}
use Rattle.std.specs.List.{list_all}
use Rattle.std.proofs.lemmas.Bool.{and_from}
use Rattle.std.proofs.lemmas.Result.{IfOk-at_ok}
use Rattle.fws_num.specs.declared.comments.Comments.TheVariants.{Ios as IosComments}
use Rattle.fws_num.specs.declared.lines.Line.{Line}
use Rattle.fws_num.specs.declared.word.Word.{Word}
use Rattle.fws_num.specs.Lines.{read_of}
use Rattle.fws_num.specs.Words.{is_sound}
use Rattle.fws_net.specs.declared.cause.Cause.{Cause}
use Rattle.fws_net.specs.declared.cause.Cause.TheVariants.{Syntax, LeftOut, NoInterface}
use Rattle.fws_net.specs.declared.packet.Lang.TheVariants.{Ios}
use Rattle.fws_net.specs.declared.site.Site.{Site}
use Rattle.fws_net.specs.Faces.{entry_named}
use Rattle.fws_net.specs.Reading.{and_then, located, lines_read}
use Rattle.fws_rules.specs.AlikeWays.{AlikePacketsStayAlike}
use Rattle.fws_rules.specs.Regular.{AlikeWalksAreRegular, RegularPartsMakeAlikeWalks}
use Rattle.fws_ios.specs.declared.config.IosConfig.{IosConfig}
use Rattle.fws_ios.specs.declared.config.IosEntry.{IosEntry}
use Rattle.fws_ios.specs.declared.config.IosGroup.{IosGroup}
use Rattle.fws_ios.specs.declared.config.IosNat.{IosNat}
use Rattle.fws_ios.specs.declared.draft.Block.{Block}
use Rattle.fws_ios.specs.declared.draft.Block.TheVariants as blocks
use Rattle.fws_ios.specs.declared.draft.IosDraft.{IosDraft}
use Rattle.fws_ios.specs.declared.draft.Marked.{Marked}
use Rattle.fws_ios.specs.declared.draft.Pool.{Pool}
use Rattle.fws_ios.specs.EntryText.{entry_of}
use Rattle.fws_ios.specs.FileText.{says, begins, begins_with_any, left_out_lines, left_out_at_interfaces, alone, in_block, entry_put, remark_line, entry_line, list_number, numbered_line, list_kind, named_line, opening_line, interface_line, group_words, is_elsewhere, with_group, group_line, with_mark, mark_line, face_line, has_pool, with_pool, pool_line, with_nat, inside_line, all_defined, top_line, block_line, line_step, fresh_text, with_marked, ended, spelled}
use Rattle.fws_ios.specs.Keywords.{is}
use Rattle.fws_ios.specs.NatText.{nat_of, pool_checked}
use Rattle.fws_ios.specs.Regular.{SpelledWalksAreRegular}
use Rattle.fws_ios.specs.Soundness.{list_fits, are_apart, is_entry, are_entries, are_single, nat_fits, is_fitting, SpelledFits}
use Rattle.fws_ios.proofs.Applied.{IsEntry, entry_within, marked_kept, single_longer, single_filtered}
use Rattle.fws_ios.proofs.Defined.{all_fit, still_apart}
use Rattle.fws_ios.proofs.Entries.{EntryFits, entry_is_fitting}
use Rattle.fws_ios.proofs.Lists.{all_longer, all_filtered, all_passed}
use Rattle.fws_ios.proofs.Outcomes.{then_holds, then_known, either_holds, found_holds, known_holds, judged_holds, located_holds}
use Rattle.fws_ios.proofs.Regular.{fitting_regular}
use Rattle.fws_ios.proofs.Translations.{NatFits, nat_is_fitting}

-- What holds of a text so far, on a site with so many interfaces

-- an interface to which lines belong is one of the site's
abbrev BlockStands : ℕ → Block → Type 0
BlockStands most (blocks.Interface face) = IfSome face (IsEntry most)
BlockStands most _ = Unit

record Standing (most : ℕ) (d : IosDraft) : Type 0 where
  block : BlockStands most d.block
  lists : list_all list_fits d.lists ≡ true
  apart : are_apart d.lists ≡ true
  groups : list_all (λ (g : IosGroup). is_entry most g.face) d.groups ≡ true
  single : are_single d.groups ≡ true
  marks : list_all (λ (m : Marked). is_entry most m.face) d.marks ≡ true
  nats : list_all nat_fits d.nats ≡ true

module _ (most : ℕ) where
  abbrev Stands : IosDraft → Type 0
  Stands d = Standing most d

  in_block_stands : (block : Block) (d : IosDraft) → BlockStands most block → Stands d → Stands (in_block block d)
  in_block_stands block d k h = record { block = k; lists = h.lists; apart = h.apart; groups = h.groups; single = h.single; marks = h.marks; nats = h.nats }

  -- what stands alone
  alone_holds : {A B : Type 0} (P : B → Type 0) (x : A) (ws : List Word) (f : A → Result B Cause) → IfOk (f x) P → IfOk (and_then (alone x ws) f) P
  alone_holds P x [] f h = h
  alone_holds P x (w ∷ ws) f h = tt

  -- Entries

  put_stands : (name : List ℕ) (d : IosDraft) (entry : IosEntry) → Stands d → EntryFits entry → IfOk (entry_put name d entry) Stands
  put_stands name d entry h k = record {
    block = h.block;
    lists = all_fit name entry k d.lists h.lists;
    apart = still_apart name entry d.lists h.apart;
    groups = h.groups;
    single = h.single;
    marks = h.marks;
    nats = h.nats;
  }

  remark_stands : (ws : List Word) (d : IosDraft) → Stands d → IfOk (remark_line ws d) Stands
  remark_stands ws d h = either_holds Stands (list_all is_sound ws) (Ok d) (Err Syntax) (λ e. h) (λ e. tt)

  entry_stands : (name : List ℕ) (extended opened : Bool) (ws : List Word) (d : IosDraft) → Stands d → IfOk (entry_line name extended opened ws d) Stands
  entry_stands name extended opened [] d h = tt
  entry_stands name extended opened (w ∷ ws) d h =
      either_holds Stands (says w (codes "remark")) (remark_line ws d) (and_then (entry_of extended opened (w ∷ ws)) (entry_put name d)) (λ e. remark_stands ws d h)
      (λ e. then_known EntryFits Stands (entry_of extended opened (w ∷ ws)) (entry_put name d) (entry_is_fitting extended opened (w ∷ ws)) (λ entry k. put_stands name d entry h k))

  numbered_stands : (ws : List Word) (d : IosDraft) → Stands d → IfOk (numbered_line ws d) Stands
  numbered_stands [] d h = tt
  numbered_stands (w ∷ ws) d h =
      judged_holds Stands w _ (then_holds Stands (list_number w.text) (λ list. entry_line (decimal list.0) list.1 false ws d)
      (λ list. entry_stands (decimal list.0) list.1 false ws d h))

  named_stands : (extended : Bool) (ws : List Word) (d : IosDraft) → Stands d → IfOk (named_line extended ws d) Stands
  named_stands extended [] d h = tt
  named_stands extended (w ∷ ws) d h =
      judged_holds Stands w _ (alone_holds Stands (blocks.List w.text extended) ws (λ block. Ok (in_block block d)) (in_block_stands (blocks.List w.text extended) d tt h))

  opening_stands : (ws : List Word) (d : IosDraft) → Stands d → IfOk (opening_line ws d) Stands
  opening_stands [] d h = tt
  opening_stands (w ∷ ws) d h = found_holds Stands (list_kind w) (λ extended. named_line extended ws d) (Ok d) (λ extended. named_stands extended ws d h) h

  -- Interfaces

  group_put : (g : IosGroup) (d : IosDraft) → IsEntry most g.face → Stands d → Stands (with_group g d)
  group_put g d k h =
      let test : IosGroup → Bool = is_elsewhere g.face g.outward in
      record {
        block = h.block;
        lists = h.lists;
        apart = h.apart;
        groups = all_longer (λ (each : IosGroup). is_entry most each.face) (filter test d.groups) g (all_filtered (λ (each : IosGroup). is_entry most each.face) test d.groups h.groups) k;
        single = single_longer (filter test d.groups) g (single_filtered test d.groups h.single) (all_passed test d.groups);
        marks = h.marks;
        nats = h.nats;
      }

  group_stands : (face : Option ℕ) (ws : List Word) (d : IosDraft) → IfSome face (IsEntry most) → Stands d → IfOk (group_line face ws d) Stands
  group_stands face ws d k h =
      then_holds Stands (group_words ws) _
      (λ group. known_holds (IsEntry most) Stands face (λ entry. Ok (with_group (record { face = entry; outward = group.1; list = group.0 }) d)) (Err NoInterface) k
      (λ entry l. group_put (record { face = entry; outward = group.1; list = group.0 }) d l h) tt)

  mark_put : (m : Marked) (d : IosDraft) → IsEntry most m.face → Stands d → Stands (with_mark m d)
  mark_put m d k h =
      let test : Marked → Bool = λ other. not (nat_eq other.face m.face) in
      record {
        block = h.block;
        lists = h.lists;
        apart = h.apart;
        groups = h.groups;
        single = h.single;
        marks = all_longer (λ (each : Marked). is_entry most each.face) (filter test d.marks) m (all_filtered (λ (each : Marked). is_entry most each.face) test d.marks h.marks) k;
        nats = h.nats;
      }

  mark_stands : (face : Option ℕ) (outside : Bool) (ws : List Word) (d : IosDraft) → IfSome face (IsEntry most) → Stands d → IfOk (mark_line face outside ws d) Stands
  mark_stands face outside ws d k h =
      then_holds Stands (alone outside ws) _
      (λ side. known_holds (IsEntry most) Stands face (λ entry. Ok (with_mark (record { face = entry; outside = side }) d)) (Err NoInterface) k
      (λ entry l. mark_put (record { face = entry; outside = side }) d l h) tt)

  face_stands : (face : Option ℕ) (ws : List Word) (d : IosDraft) → IfSome face (IsEntry most) → Stands d → IfOk (face_line face ws d) Stands
  face_stands face ws d k h =
      either_holds Stands (begins (codes "ip" ∷ codes "access-group" ∷ []) ws) (group_line face (drop 2 ws) d) _ (λ e. group_stands face (drop 2 ws) d k h)
      (λ e. either_holds Stands (begins (codes "ip" ∷ codes "nat" ∷ codes "inside" ∷ []) ws) (mark_line face false (drop 3 ws) d) _
      (λ l. mark_stands face false (drop 3 ws) d k h)
      (λ l. either_holds Stands (begins (codes "ip" ∷ codes "nat" ∷ codes "outside" ∷ []) ws) (mark_line face true (drop 3 ws) d) _
      (λ m. mark_stands face true (drop 3 ws) d k h)
      (λ m. either_holds Stands (is_some face && begins_with_any left_out_at_interfaces ws) (Err LeftOut) (Ok d) (λ n. tt) (λ n. h))))

  -- Pools and translations

  pool_put : (name : List ℕ) (d : IosDraft) → Stands d → Stands (with_pool name d)
  pool_put name d h = record { block = h.block; lists = h.lists; apart = h.apart; groups = h.groups; single = h.single; marks = h.marks; nats = h.nats }

  pool_stands : (ws : List Word) (d : IosDraft) → Stands d → IfOk (pool_line ws d) Stands
  pool_stands [] d h = tt
  pool_stands (w ∷ ws) d h =
      judged_holds Stands w _ (either_holds Stands (has_pool d.pools w.text) (Err Syntax) (and_then (pool_checked ws) (λ whole. Ok (with_pool w.text d))) (λ e. tt)
      (λ e. then_holds Stands (pool_checked ws) (λ whole. Ok (with_pool w.text d)) (λ whole. pool_put w.text d h)))

  nat_put : (nat : IosNat) (d : IosDraft) → NatFits nat → Stands d → Stands (with_nat nat d)
  nat_put nat d k h = record {
    block = h.block;
    lists = h.lists;
    apart = h.apart;
    groups = h.groups;
    single = h.single;
    marks = h.marks;
    nats = all_longer nat_fits d.nats nat h.nats k;
  }

module _ (site : Site) (defined : List Pool) where
  abbrev most : ℕ
  most = suc (length site.faces)

  abbrev Ends : IosDraft → Type 0
  Ends d = Standing most d

  interface_stands : (ws : List Word) (d : IosDraft) → Ends d → IfOk (interface_line site ws d) Ends
  interface_stands [] d h = tt
  interface_stands (w ∷ ws) d h =
      let block = blocks.Interface (entry_named Ios site w.text) in
      judged_holds Ends w _ (alone_holds most Ends block ws (λ each. Ok (in_block each d)) (in_block_stands most block d (entry_within site w.text) h))

  inside_stands : (ws : List Word) (d : IosDraft) → Ends d → IfOk (inside_line site defined ws d) Ends
  inside_stands [] d h = tt
  inside_stands (w ∷ ws) d h =
      judged_holds Ends w _ (either_holds Ends (is w.text (codes "source")) (and_then (nat_of site defined ws) (λ nat. Ok (with_nat nat d))) (Err LeftOut)
      (λ e. then_known NatFits Ends (nat_of site defined ws) (λ nat. Ok (with_nat nat d)) (nat_is_fitting site defined ws) (λ nat k. nat_put most nat d k h)) (λ e. tt))

  -- Lines

  top_stands : (ws : List Word) (d : IosDraft) → Ends d → IfOk (top_line site defined ws d) Ends
  top_stands ws d h =
      either_holds Ends (begins (codes "interface" ∷ []) ws) (interface_line site (drop 1 ws) d) _ (λ e. interface_stands (drop 1 ws) d h)
      (λ e. either_holds Ends (begins (codes "access-list" ∷ []) ws) (numbered_line (drop 1 ws) d) _ (λ k. numbered_stands most (drop 1 ws) d h)
      (λ k. either_holds Ends (begins (codes "ip" ∷ codes "access-list" ∷ []) ws) (opening_line (drop 2 ws) d) _ (λ l. opening_stands most (drop 2 ws) d h)
      (λ l. either_holds Ends (begins (codes "ip" ∷ codes "nat" ∷ codes "pool" ∷ []) ws) (pool_line (drop 3 ws) d) _ (λ m. pool_stands most (drop 3 ws) d h)
      (λ m. either_holds Ends (begins (codes "ip" ∷ codes "nat" ∷ codes "inside" ∷ []) ws) (inside_line site defined (drop 3 ws) d) _
      (λ n. inside_stands (drop 3 ws) d h)
      (λ n. either_holds Ends (begins_with_any left_out_lines ws) (Err LeftOut) (Ok d) (λ o. tt) (λ o. h))))))

  block_stands : (block : Block) (ws : List Word) (d : IosDraft) → BlockStands most block → Ends d → IfOk (block_line block ws d) Ends
  block_stands blocks.Other ws d k h = h
  block_stands (blocks.Interface face) ws d k h = face_stands most face ws d k h
  block_stands (blocks.List name extended) ws d k h = entry_stands most name extended true ws d h

  line_stands : (d : IosDraft) (line : Line) → Ends d → IfOk (line_step site defined d line) Ends
  line_stands d line h =
      either_holds Ends line.indented (block_line d.block line.words d) (top_line site defined line.words (in_block blocks.Other d))
      (λ e. block_stands d.block line.words d h.block h) (λ e. top_stands line.words (in_block blocks.Other d) (in_block_stands most blocks.Other d tt h))

  lines_stand : (d : IosDraft) (lines : List Line) → Ends d → IfOk (lines_read (line_step site defined) d lines) Ends
  lines_stand d [] h = h
  lines_stand d (line ∷ lines) h =
      then_known Ends Ends (located line.number (line_step site defined d line)) (λ next. lines_read (line_step site defined) next lines)
      (located_holds Ends line.number (line_step site defined d line) (line_stands d line h)) (λ next k. lines_stand next lines k)

-- The whole text

abbrev Fitting : Site → IosConfig → Type 0
Fitting site c = is_fitting site c ≡ true

five_from : (a b c d e : Bool) → a ≡ true → b ≡ true → c ≡ true → d ≡ true → e ≡ true → (a && b && c && d && e) ≡ true
five_from a b c d e p q r s t = and_from (a && b && c && d) e (and_from (a && b && c) d (and_from (a && b) c (and_from a b p q) r) s) t

three_from : (a b c : Bool) → a ≡ true → b ≡ true → c ≡ true → (a && b && c) ≡ true
three_from a b c p q r = and_from (a && b) c (and_from a b p q) r

end_fits : (site : Site) (d : IosDraft) → Standing (suc (length site.faces)) d → IfOk (ended d) (Fitting site)
end_fits site d h =
    let last = suc (length site.faces) in
    five_from (list_all list_fits d.lists) (are_apart d.lists) _ (are_single d.groups) (list_all nat_fits d.nats) h.lists h.apart
    (three_from (list_all (λ (g : IosGroup). is_entry last g.face) d.groups) (are_entries last (with_marked false [] d.marks)) (are_entries last (with_marked true [] d.marks))
    h.groups (marked_kept last false [] d.marks refl h.marks) (marked_kept last true [] d.marks refl h.marks)) h.single h.nats

spelled_fitting : (site : Site) (text : List ℕ) → IfOk (spelled site text) (Fitting site)
spelled_fitting site text =
    let lines = read_of IosComments text in
    let defined = all_defined lines.lines in
    then_known (Standing (suc (length site.faces))) (Fitting site) (lines_read (line_step site defined) fresh_text lines.lines) (λ d. located lines.past (ended d))
    (lines_stand site defined fresh_text lines.lines
    (record { block = tt; lists = refl; apart = refl; groups = refl; single = refl; marks = refl; nats = refl }))
    (λ d h. located_holds (Fitting site) lines.past (ended d) (end_fits site d h))

pub spelled_is_fitting : SpelledFits
spelled_is_fitting site text c e = IfOk-at_ok (Fitting site) e (spelled_fitting site text)

pub spelled_walks_are_regular : AlikePacketsStayAlike → RegularPartsMakeAlikeWalks → AlikeWalksAreRegular → SpelledWalksAreRegular
spelled_walks_are_regular stay make regular site text c e = fitting_regular stay make regular site c (spelled_is_fitting site text c e)
