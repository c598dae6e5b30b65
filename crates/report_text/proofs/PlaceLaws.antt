-- Lines at the front of bytes: there is one reading of them, and one place where they end.
use Rattle.std.proofs.Common.{◌≡◌, ◌≢◌, ℕ, List, [], ◌∷◌, ◌++◌, length, refl, sym, ap, subst, ◌∙◌, append_assoc}
use Rattle.std.proofs.lemmas.List.{append-nil, append_cancel_left}
use Rattle.std.specs.List.{AllByRecursion}
use Rattle.report_text.specs.Line.{ReportLine, Plain, Called, IsReportLine, report_line, report_lines_text}
use Rattle.report_text.specs.Fitting.{Reading, Over, Fits, FitsPlain, FitsCall, Fit, begin, next, reached, AllFit}
use Rattle.report_text.specs.Place.{BeginsLine, LinesEnd, IsAlone}

-- where nothing may come nothing fits
nothing_fits : (r : Reading) (line : ReportLine) → r.expect ≡ Over → Fits r line → ⊥
nothing_fits r (Plain line) over fits = subst (λ e. FitsPlain r e line) over fits
nothing_fits r (Called call) over fits = subst (λ e. FitsCall e call) over fits

pub ended : (r : Reading) (bytes : List ℕ) → r.expect ≡ Over → BeginsLine r bytes → ⊥
ended r bytes over b = nothing_fits r b.line over b.fits

first_split : (line : ReportLine) (lines : List ReportLine) (rest bytes : List ℕ) → bytes ≡ report_lines_text (line ∷ lines) ++ rest
    → bytes ≡ report_line line ++ (report_lines_text lines ++ rest)
first_split line lines rest bytes e = e ∙ append_assoc (report_line line) (report_lines_text lines) rest

-- lines that fit at the front of the same bytes, after which none fits, are the same
pub same_lines : IsAlone → (r : Reading) (ls ms : List ReportLine) (a b bytes : List ℕ) → AllByRecursion IsReportLine ls → AllByRecursion IsReportLine ms → Fit r ls
    → Fit r ms
    → bytes ≡ report_lines_text ls ++ a → bytes ≡ report_lines_text ms ++ b
    → (BeginsLine (reached r ls) a → ⊥) → (BeginsLine (reached r ms) b → ⊥) → ls ≡ ms
same_lines alone r [] [] a b bytes i j f g e h none other = refl
same_lines alone r [] (m ∷ ms) a b bytes i j f g e h none other =
    absurd (none (record { line = m; rest = report_lines_text ms ++ b; within = j.0; fits = g.0; split = sym e ∙ first_split m ms b bytes h }))
same_lines alone r (l ∷ ls) [] a b bytes i j f g e h none other =
    absurd (other (record { line = l; rest = report_lines_text ls ++ a; within = i.0; fits = f.0; split = sym h ∙ first_split l ls a bytes e }))
same_lines alone r (l ∷ ls) (m ∷ ms) a b bytes i j f g e h none other =
    let front : report_line l ++ (report_lines_text ls ++ a) ≡ report_line m ++ (report_lines_text ms ++ b) =
    sym (first_split l ls a bytes e) ∙ first_split m ms b bytes h in
    let same = alone r l m (report_lines_text ls ++ a) (report_lines_text ms ++ b) i.0 j.0 f.0 g.0 front in
    let g' : Fit (next r l) ms = subst (λ k. Fit (next r k) ms) (sym same.0) g.1 in
    let o' : BeginsLine (reached (next r l) ms) b → ⊥ = subst (λ k. BeginsLine (reached (next r k) ms) b → ⊥) (sym same.0) other in
    let others : ls ≡ ms = same_lines alone (next r l) ls ms a b (report_lines_text ls ++ a) i.1 j.1 f.1 g' refl same.1 none o' in
    ap (λ k. k ∷ ls) same.0 ∙ ap (λ ks. m ∷ ks) others

-- bytes are the lines of one report at most
pub one_reading : IsAlone → (ls ms : List ReportLine) → AllFit ls → AllFit ms → report_lines_text ls ≡ report_lines_text ms → ls ≡ ms
one_reading alone ls ms f g e =
    same_lines alone begin ls ms [] [] (report_lines_text ls) f.are.within g.are.within f.are.fit g.are.fit (sym (append-nil (report_lines_text ls)))
    (e ∙ sym (append-nil (report_lines_text ms))) (ended (reached begin ls) [] f.over) (ended (reached begin ms) [] g.over)

-- there is one place where lines end
pub one_place : IsAlone → (bytes : List ℕ) (at other : ℕ) → LinesEnd bytes at → LinesEnd bytes other → at ≡ other
one_place alone bytes at other e f =
    e.place ∙ ap (λ ls. length (report_lines_text ls))
    (same_lines alone begin e.lines f.lines e.rest f.rest bytes e.are.within f.are.within e.are.fit f.are.fit e.split f.split e.no_line f.no_line)
    ∙ sym f.place

-- where lines end, the bytes are not those of all lines of a report
pub not_all : IsAlone → (bytes : List ℕ) (at : ℕ) (ls : List ReportLine) → LinesEnd bytes at → AllFit ls → bytes ≢ report_lines_text ls
not_all alone bytes at ls e f text =
    let whole : bytes ≡ report_lines_text ls ++ [] = text ∙ sym (append-nil (report_lines_text ls)) in
    let same : e.lines ≡ ls =
    same_lines alone begin e.lines ls e.rest [] bytes e.are.within f.are.within e.are.fit f.are.fit e.split whole e.no_line (ended (reached begin ls) [] f.over) in
    let over : (reached begin e.lines).expect ≡ Over = ap (λ ks. (reached begin ks).expect) same ∙ f.over in
    let rest : e.rest ≡ [] = append_cancel_left (report_lines_text e.lines) e.rest [] (sym e.split ∙ whole ∙ ap (λ ks. report_lines_text ks ++ []) (sym same)) in
    e.unended over rest
