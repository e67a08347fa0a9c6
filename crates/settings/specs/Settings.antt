-- The settings of a decoding call: document 01, "The queue", and refusal 8. Assumes nothing.
use Rattle.std.specs.Prelude.{Bool, cond, ◌&&◌, ℕ, ◌≤◌, leb, Result, Ok, Err}
use Rattle.codebook.specs.declared.Refusal.{Refusal}
use Rattle.codebook.specs.declared.Refusal.TheVariants.{BadSetting}
use Rattle.settings.specs.declared.Settings.{Settings}

-- settings of these numbers: L (visits), D (paths) and T (limit)
abbrev pub asked : ℕ → ℕ → ℕ → Settings
asked L D T = record { visits = L; paths = D; limit = T }

-- whether each is in its range: L 1 to 32, D 2 to 256, T 0 to 1,048,576
unfoldable pub settings_ok : Settings → Bool
settings_ok s = leb 1 s.visits && leb s.visits 32 && leb 2 s.paths && leb s.paths 256 && leb s.limit 1048576

-- the settings, if each is in its range, else 8
unfoldable pub checked_as : Settings → Result Settings Refusal
checked_as s = cond (settings_ok s) (Ok s) (Err BadSetting)

-- each is in its range, as the functions below a call have it
pub record Ranged (s : Settings) : Type 0 where
  pub visited : 1 ≤ s.visits
  pub visits : s.visits ≤ 32
  pub alive : 2 ≤ s.paths
  pub paths : s.paths ≤ 256
  pub limited : s.limit ≤ 1048576
