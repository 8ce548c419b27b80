-- The line behind the run of an application of so many packages.
use Rattle.std.specs.Prelude.{◌≡◌, ℕ, List, [], ◌∷◌, ◌++◌, codes}
use Rattle.std.specs.Fmt.{decimal}
use Rattle.lava_big.specs.declared.summary.TheConstants as texts

-- how many packages it has, how many crossings the run had, and the exit status of its ending
-- own: the summary of `big`
abbrev pub summary_line : (count crossings status : ℕ) → List ℕ
summary_line count crossings status =
    texts.SUMMARY_PACKAGES.now
    ++ (decimal count ++ (texts.SUMMARY_CROSSINGS.now ++ (decimal crossings ++ (texts.SUMMARY_STATUS.now ++ (decimal status ++ (10 ∷ []))))))

abbrev pub One_summary : Type 0
One_summary = summary_line 1 6 0 ≡ codes "packages 1 crossings 6 status 0\n"
