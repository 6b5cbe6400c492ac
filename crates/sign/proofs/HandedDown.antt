-- How a request to a sign ends, by how the one ends that is handed down for it.
use Rattle.std.proofs.Common.{◌≡◌, ◌<◌, length, Some, refl, ap, ◌∙◌, arith}
use Rattle.std.proofs.Math.Path.{fun_ext}
use Rattle.std.proofs.lemmas.Grind.{common_steps}
use Rattle.knowledge.specs.declared.fault.Fault.{Fault}
use Rattle.board.specs.declared.request.Request.{Request}
use Rattle.board.specs.Sheets.{with_sheet}
use Rattle.board.specs.Requests.{written, Meaning}
use Rattle.board.specs.Calls.{Rule, Done, Refused}
use Rattle.board.proofs.Layers.{why_up}
use Rattle.sign.specs.declared.marks.Marks.{Marks}
use Rattle.sign.specs.Marks.{with_mark, meaning_above, handed, new_mark, fills_above}
use Rattle.sign.specs.Layer.{alike, result_above}
use Rattle.sign.proofs.Marked.{with_sheets}

-- a request that is done below is done above, once the sheet that it wrote has its new mark
pub done_above : (ms : Marks) (q r : Request) {m m' : Meaning} {F : Rule}
    → length ms.by_sheet ≡ 64 → handed ms q ≡ Some r → Done m F r m'
    → Done (meaning_above ms m) (fills_above ms F) q (meaning_above (with_mark ms (written r) (new_mark ms q)) m')
unfolding with_sheet
done_above ms q r {m} {m'} {F} size is done =
    let a = alike m.width ms q r is in
    let known : written r < 64 = grind (arith, done.sheets_known) in
    let place_known = a.place.0 done.place_known in
    let above = result_above ms m.width m.sheets q r is place_known in
    record {
      sheets_known = a.sheets.0 done.sheets_known;
      place_known = place_known;
      room = λ full. done.room (rw is at full);
      wrote = ap (meaning_above (with_mark ms (written r) (new_mark ms q))) done.wrote
          ∙ ap (with_sheets m) (fun_ext (λ i. fun_ext (λ s. grind (arith, common_steps, a.sheet, above s))));
    }

-- a request that is refused below is refused above
pub refused_above : (ms : Marks) (q r : Request) {m m' : Meaning} {F F' : Rule} {e : Fault}
    → handed ms q ≡ Some r → Refused m F r m' F' e
    → Refused (meaning_above ms m) (fills_above ms F) q (meaning_above ms m') (fills_above ms F') e
refused_above ms q r {m} {m'} {F} {F'} is refused = record {
  why = why_up refl (alike m.width ms q r is) (λ full. rw is full) refused.why;
  kept = ap (meaning_above ms) refused.kept;
  same_rule = λ p. grind (arith, refused.same_rule);
}
