use Rattle.proposals.proofs.Owned.{kind, sized}
use Rattle.moved_pages.proofs.Laid.{page_free, page_file, page_directory}
use Rattle.moved_pages.proofs.move_page.Goals as goal

pub move_entries-requires : goal.move_entries-requires
move_entries-requires c = (c.requires.2, c.requires.3, (sized c.requires.0).high)

pub returns-in-Vacant : goal.returns-in-Vacant
returns-in-Vacant c = page_free _ _ _ _ (kind _ _ _ c.owner_entry.ensures.0 c.in-Vacant.is) c.copy_page.ensures

pub returns-in-File : goal.returns-in-File
returns-in-File c = page_file _ _ _ _ _ _ _ _ _ _ (kind _ _ _ c.owner_entry.ensures.0 c.in-File.is) c.requires.2 c.copy_page-in-File.ensures c.new_place.ensures

pub returns-in-Directory : goal.returns-in-Directory
returns-in-Directory c = page_directory _ _ _ _ _ _ _ _ _ (kind _ _ _ c.owner_entry.ensures.0 c.in-Directory.is) c.requires.1 c.move_entries.ensures
