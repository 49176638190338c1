-- Files that were read are lawful.
use Rattle.std.proofs.Common.{◌≡◌, ◌==◌, ℕ, ◌+◌, List, [], ◌∷◌, length, map, codes, Bool, true, false, not, cond, Some, None, Result, Ok, Err, refl, sym, ap, ◌∙◌}
use Rattle.std.specs.List.{list_all}
use Rattle.std.specs.Option.{option_or}
use Rattle.std.proofs.lemmas.Bool.{and_from}
use Rattle.tk_base.proofs.Options.{option_or-none, option_or_none_left, option_or_none_right}
use Rattle.serde_json.specs.Data.{Data, null, boolean, number, string, array, object}
use Rattle.tk_events.specs.Event.{is_lawful}
use Rattle.tk_events.specs.declared.kinds.Kind.TheVariants.{File}
use Rattle.tk_events.specs.declared.payloads.Payload.TheVariants.{Path}
use Rattle.serde_json.specs.Find.{get}
use Rattle.tk_plan_json.specs.Answers.{Reads}
use Rattle.tk_plan_json.specs.Checks.{first, row, member_wrong, member_at, array_of, items_wrong, item_at, list_of}
use Rattle.tk_plan_json.specs.Rows.{files_row, files_rows, nonempty_text}
use Rattle.tk_plan_json.specs.Contents.{json_path, json_files}
use Rattle.tk_plan_json.specs.Contents.{files_of}
use Rattle.tk_plan_json.specs.MemberValues.{AreFiles}
use Rattle.tk_plan_json.specs.declared.faults.PlanFault.{PlanFault}
use Rattle.tk_plan_json.proofs.HandedFaults.{refuses_whole}

by_length : (at : List ℕ) (b : Bool) → cond b (Some at) None ≡ None → not b ≡ true
by_length at true e = cc
by_length at false e = refl

path_lawful : (at : List ℕ) (d : Data) → nonempty_text at d ≡ None → is_lawful File (Path (json_path d)) ≡ true
path_lawful at null e = cc
path_lawful at (boolean b) e = cc
path_lawful at (number n) e = cc
path_lawful at (string s) e = by_length at (length s == 0) e
path_lawful at (array ds) e = cc
path_lawful at (object ms) e = cc

pub files_lawful : (at : List ℕ) (i : ℕ) (ds : List Data) → items_wrong nonempty_text at i ds ≡ None → list_all (λ p. is_lawful File (Path p)) (map json_path ds) ≡ true
files_lawful at i [] e = refl
files_lawful at i (d ∷ ds) e =
    and_from _ _ (path_lawful (item_at at i) d (option_or_none_left (nonempty_text (item_at at i) d) (items_wrong nonempty_text at (i + 1) ds) e))
    (files_lawful at (i + 1) ds (option_or_none_right (nonempty_text (item_at at i) d) (items_wrong nonempty_text at (i + 1) ds) e))

listed_lawful : (at : List ℕ) (d : Data) → array_of nonempty_text at d ≡ None → list_all (λ p. is_lawful File (Path p)) (json_files (Some d)) ≡ true
listed_lawful at null e = refl
listed_lawful at (boolean b) e = refl
listed_lawful at (number n) e = refl
listed_lawful at (string s) e = refl
listed_lawful at (array ds) e = files_lawful at 0 (list_of ds) e
listed_lawful at (object ms) e = refl

-- in version 2 the member is read
module _ (at place : List ℕ) (o d : Data) (b : Bool) (takes : b ≡ true) (there : get (codes "files") o ≡ Some d) (here : place ≡ member_at at (codes "files")) where
  row_is : first (map (row at o) (files_rows b)) ≡ array_of nonempty_text place d
  row_is =
      ap (λ c. first (map (row at o) (files_rows c))) takes
      ∙ ap (λ m. option_or (member_wrong files_row (member_at at (codes "files")) m) None) there
      ∙ option_or-none (array_of nonempty_text (member_at at (codes "files")) d)
      ∙ ap (λ a. array_of nonempty_text a d) (sym here)

  pub files_read : (r : Result (List (List ℕ)) PlanFault) → Reads (array_of nonempty_text place d) (λ f. f ≡ json_files (Some d)) r
      → Reads (first (map (row at o) (files_rows b))) (AreFiles b o) r
  unfolding row_is
  files_read (Ok f) x = (
    row_is ∙ x.0,
    record {
      paths = x.1 ∙ ap json_files (sym there) ∙ ap (λ c. files_of c o) (sym takes);
      lawful = ap (list_all (λ p. is_lawful File (Path p))) x.1 ∙ listed_lawful place d x.0;
    },
  )
  files_read (Err e) x = refuses_whole (array_of nonempty_text place d) (first (map (row at o) (files_rows b))) e (λ p w. row_is ∙ w) x
