pub mod Vacancies
