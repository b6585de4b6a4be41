-- The workspace of `selftest`, and the edit of its first module. They are this project's own.
use Rattle.std.specs.Prelude.{ℕ, List, [], ◌∷◌, ◌++◌, codes}
use Rattle.build_base.specs.MemoryTree.{file_at, with_file}
use Rattle.build_base.specs.Outside.{Files}
use Rattle.build_base.specs.declared.memory_tree.Held.{Held}
use Rattle.selftest_tree.specs.Texts.{for_each, package_text, platform_text, flash_text, module_path, module_text}

abbrev pub held : List ℕ → List ℕ → Held
held path bytes = record { path = path; bytes = bytes }

abbrev pub module_file : ℕ → List Held
module_file k = held (module_path k) (module_text (codes "TRUE") k) ∷ []

-- the files with n modules
unfoldable pub selftest_files : ℕ → List Held
selftest_files n =
    (held (codes "T.dec") package_text ∷ held (codes "T.dsc") (platform_text n)
    ∷ held (codes "T.fdf") (flash_text n) ∷ []) ++ for_each module_file n

-- the first module's text with FALSE in place of TRUE
abbrev pub edited_text : List ℕ
edited_text = module_text (codes "FALSE") 0

-- what stands at each path of the workspace
abbrev pub workspace : ℕ → Files
workspace n = file_at (selftest_files n)

-- after the edit
abbrev pub edited_workspace : ℕ → Files
edited_workspace n = with_file (workspace n) (module_path 0) edited_text
