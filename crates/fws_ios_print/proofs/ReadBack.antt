-- The lines of a printable configuration are read as this configuration.
use Rattle.std.proofs.Common.{◌≡◌, ℕ, suc, ◌-◌, ◌^◌, ◌<◌, true, false, ◌&&◌, nat_lt, Ok, List, [], ◌∷◌, ◌++◌, length, refl, ap, ap₂, ◌∙◌, arith, subst}
use Rattle.std.proofs.lemmas.Bool.{and_parts, ltb-true}
use Rattle.std.specs.List.{list_all}
use Rattle.fws_num.specs.declared.comments.Comments.TheVariants.{Ios as IosComments}
use Rattle.fws_num.specs.Lines.{lines_of, numbered}
use Rattle.fws_iv.specs.declared.iv.Iv.{Iv}
use Rattle.fws_net.specs.declared.site.Site.{Site}
use Rattle.fws_net.specs.Reading.{and_then, lines_read, located}
use Rattle.fws_ios.specs.declared.config.IosConfig.{IosConfig}
use Rattle.fws_ios.specs.declared.config.IosList.{IosList}
use Rattle.fws_ios.specs.declared.draft.Block.TheVariants as blocks
use Rattle.fws_ios.specs.declared.draft.IosDraft.{IosDraft}
use Rattle.fws_ios.specs.declared.draft.Pool.{Pool}
use Rattle.fws_ios.specs.FileText.{defined_from, ended, fresh_text, line_step, spelled}
use Rattle.fws_ios.specs.Soundness.{are_apart}
use Rattle.fws_ios_print.specs.Printable.{are_sides, face_count, groups_ascend, is_printed_group, is_printed_list, is_printed_nat, ranges_ascend, sides_differ}
use Rattle.fws_ios_print.specs.PrintedText.{config_lines, config_text, face_names, head_lines, interfaces_lines, list_lines, lists_comment, nats_comment, nats_lines, section}
use Rattle.fws_ios_print.specs.ReadBack.{PrintedTextsAreRead}
use Rattle.fws_ios_print.proofs.FacesRead.{all_numbered, interfaces_taken, marks_from}
use Rattle.fws_ios_print.proofs.Laws.{Laws}
use Rattle.fws_ios_print.proofs.LinesTaken.{AreTaken, comment_taken, is_comment, lines_taken, taken_append}
use Rattle.fws_ios_print.proofs.ListsRead.{absent, lists_taken, text_at}
use Rattle.fws_ios_print.proofs.NatsRead.{names_from, nats_taken, pools_from}
use Rattle.fws_ios_print.proofs.Sides.{none_common, side_marked_back}

-- ahead of the first list there is none
none_ahead : (ls : List IosList) → list_all (λ l. absent l.name []) ls ≡ true
none_ahead [] = refl
none_ahead (l ∷ ls) = none_ahead ls

section_taken : {A : Type 0} (site : Site) (defined p q : List Pool) (comment : List ℕ) (items : List A) (d e : IosDraft) (lines : List (List ℕ)) → is_comment comment ≡ true → (items ≡ [] → lines ≡ [])
    → AreTaken site defined p d lines q e → AreTaken site defined p d (section comment items lines) q e
section_taken site defined p q comment [] d e lines h none k = subst (λ (l : List (List ℕ)). AreTaken site defined p d l q e) (none refl) k
section_taken site defined p q comment (item ∷ items) d e lines h none k = comment_taken h k

-- a text by its lines: both passes over them, and their end
text_by : (site : Site) (c : IosConfig) (d : IosDraft) (text : List ℕ) (lines : List (List ℕ)) (defined : List Pool) → lines_of text ≡ lines → defined_from [] (numbered IosComments 1 lines) ≡ defined
    → lines_read (line_step site defined) fresh_text (numbered IosComments 1 lines) ≡ Ok d → ended d ≡ Ok c → spelled site text ≡ Ok c
text_by site c d text lines defined divides pools taken last =
    ap (λ (ls : List (List ℕ)). and_then (lines_read (line_step site (defined_from [] (numbered IosComments 1 ls))) fresh_text (numbered IosComments 1 ls)) (λ state. located (suc (length ls)) (ended state))) divides
    ∙ ap (λ (ps : List Pool). and_then (lines_read (line_step site ps) fresh_text (numbered IosComments 1 lines)) (λ state. located (suc (length lines)) (ended state))) pools
    ∙ ap (λ o. and_then o (λ state. located (suc (length lines)) (ended state))) taken
    ∙ ap (located (suc (length lines))) last

pub printed_read : Laws → PrintedTextsAreRead
printed_read laws site c orderly h =
    let a = list_all is_printed_list c.lists in
    let b = are_apart c.lists in
    let g = groups_ascend 2 c.groups in
    let k = list_all (is_printed_group site) c.groups in
    let s = are_sides site c.inside c.outside in
    let n = list_all is_printed_nat c.nats in
    let f = nat_lt (length c.nats) (2 ^ 64 - 1) in
    let p6 = and_parts (a && b && g && k && s && n) f h in
    let p5 = and_parts (a && b && g && k && s) n p6.0 in
    let p4 = and_parts (a && b && g && k) s p5.0 in
    let p3 = and_parts (a && b && g) k p4.0 in
    let p2 = and_parts (a && b) g p3.0 in
    let p1 = and_parts a b p2.0 in
    let count = face_count site in
    let differ = and_parts (ranges_ascend 1 count c.inside && ranges_ascend 1 count c.outside) (sides_differ c.inside c.outside) p4.1 in
    let sides = and_parts (ranges_ascend 1 count c.inside) (ranges_ascend 1 count c.outside) differ.0 in
    let few : length c.nats < 2 ^ 64 - 1 = ltb-true (length c.nats) (2 ^ 64 - 1) p6.1 in
    let defined = pools_from 1 c.nats in
    let marks = marks_from c count 1 in
    let names = names_from 1 c.nats in
    let first = interfaces_taken laws site orderly defined [] [] [] [] c (λ face. none_common c.inside c.outside face differ.1) blocks.Other count 1 c.groups [] [] (omega arith) (omega arith) p3.1 p2.1 refl refl in
    let second = lists_taken laws site defined [] c.groups marks [] [] first.block [] c.lists p1.0 p1.1 (none_ahead c.lists) in
    let third = nats_taken laws site defined c.lists c.groups marks second.block [] [] [] 1 c.nats p5.1 (omega arith) (λ m low high. refl) (λ m low high. refl) refl in
    let d1 = text_at first.block [] c.groups marks [] [] in
    let d2 = text_at second.block c.lists c.groups marks [] [] in
    let d3 = text_at third.block c.lists c.groups marks names c.nats in
    let s1 = interfaces_lines c 1 (face_names site) c.groups in
    let s2 = section lists_comment c.lists (list_lines c.lists) in
    let s3 = section nats_comment c.nats (nats_lines 1 c.nats) in
    let taken : AreTaken site defined [] fresh_text (head_lines ++ (s1 ++ (s2 ++ s3))) defined d3 =
    comment_taken refl (comment_taken refl (comment_taken refl
    (taken_append site defined [] [] defined fresh_text d1 d3 s1 (s2 ++ s3) (subst (λ (l : List (List ℕ)). AreTaken site defined [] fresh_text l [] d1) (all_numbered site c c.groups) first.taken)
    (taken_append site defined [] [] defined d1 d2 d3 s2 s3 (section_taken site defined [] [] lists_comment c.lists d1 d2 (list_lines c.lists) refl (λ e. ap list_lines e) second.taken)
    (section_taken site defined [] defined nats_comment c.nats d2 d3 (nats_lines 1 c.nats) refl (λ e. ap (nats_lines 1) e) third.taken))))) in
    let lines = config_lines site c in
    let are = lines_taken laws site defined [] defined fresh_text d3 lines taken in
    let same : ended d3 ≡ Ok c =
    ap₂ (λ (i o : List Iv). let x : IosConfig = record { lists = c.lists; groups = c.groups; inside = i; outside = o; nats = c.nats } in Ok x) (side_marked_back laws c false count sides.0) (side_marked_back laws c true count sides.1) in
    text_by site c d3 (config_text site c) lines defined (laws.lines lines are.single) (are.pools 1) (are.taken 1) same
